use Rattle.pst_ast.specs.SharedView.{view_low}
use Rattle.pst_parse_part.proofs.Maybe.{present_given, present_fails}
use Rattle.pst_parse_part.proofs.plain.maybe_low.Goals as goal
use Rattle.pst_parse_part.specs.Families.{low_family}
use Rattle.pst_parse_expr.specs.Constraints.{is_at}
use Rattle.pst_token.specs.declared.kind.Kind.TheVariants as kind
use Rattle.std.proofs.Common.{arith, rules}
use Rattle.std.proofs.lemmas.Result.{err_from_is_err_and}

pub returns-in_err-low : goal.returns-in_err-low
returns-in_err-low c =
    let p = err_from_is_err_and c.from_residual.result c.from_residual.ensures.1 in
    rw (p.1, p.2) (present_fails (is_at kind.Colon) (low_family c.args.depth) c.args.tokens.now c.args.at (search rules) c.in_err-low.field-0.0 c.in_err-low.ensures)

pub returns : goal.returns
returns c = record { settles = present_given (is_at kind.Colon) (low_family c.args.depth) c.args.tokens.now c.args.at (search rules) (view_low c.in_ok-low.low) c.in_ok-low.after c.in_ok-low.ensures.settles; after = omega (arith, c.in_ok-low.ensures.after); inside = c.in_ok-low.ensures.inside }
