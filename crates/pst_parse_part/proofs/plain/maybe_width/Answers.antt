use Rattle.pst_ast.specs.SharedView.{view_width}
use Rattle.pst_parse_part.proofs.Maybe.{present_given, present_fails}
use Rattle.pst_parse_part.proofs.plain.maybe_width.Goals as goal
use Rattle.pst_parse_part.specs.Families.{width_family}
use Rattle.pst_parse_expr.specs.Constraints.{is_at}
use Rattle.pst_token.specs.declared.kind.Kind.TheVariants as kind
use Rattle.std.proofs.Common.{arith, rules}
use Rattle.std.proofs.lemmas.Result.{err_from_is_err_and}

pub returns-in_err-width : goal.returns-in_err-width
returns-in_err-width c =
    let p = err_from_is_err_and c.from_residual.result c.from_residual.ensures.1 in
    rw (p.1, p.2) (present_fails (is_at kind.LeftBracket) (width_family c.args.depth) c.args.tokens.now c.args.at (search rules) c.in_err-width.field-0.0 c.in_err-width.ensures)

pub returns : goal.returns
returns c = record { settles = present_given (is_at kind.LeftBracket) (width_family c.args.depth) c.args.tokens.now c.args.at (search rules) (view_width c.in_ok-width.width) c.in_ok-width.after c.in_ok-width.ensures.settles; after = omega (arith, c.in_ok-width.ensures.after); inside = c.in_ok-width.ensures.inside }
