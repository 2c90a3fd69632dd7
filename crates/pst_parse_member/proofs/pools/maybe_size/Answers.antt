use Rattle.pst_ast.specs.DeclarationView.{view_size}
use Rattle.pst_parse_part.proofs.Maybe.{present_given, present_fails}
use Rattle.pst_parse_member.proofs.pools.maybe_size.Goals as goal
use Rattle.pst_parse_member.specs.Families.{size_family}
use Rattle.pst_parse_expr.specs.Constraints.{is_at}
use Rattle.pst_token.specs.declared.kind.Kind.TheVariants as kind
use Rattle.std.proofs.Common.{arith, rules}
use Rattle.std.proofs.lemmas.Result.{err_from_is_err_and}

pub returns-in_err-size : goal.returns-in_err-size
returns-in_err-size c =
    let p = err_from_is_err_and c.from_residual.result c.from_residual.ensures.1 in
    rw (p.1, p.2) (present_fails (is_at kind.LeftBracket) (size_family c.args.depth) c.args.tokens.now c.args.at (search rules) c.in_err-size.field-0.0 c.in_err-size.ensures)

pub returns : goal.returns
returns c = record { settles = present_given (is_at kind.LeftBracket) (size_family c.args.depth) c.args.tokens.now c.args.at (search rules) (view_size c.in_ok-size.size) c.in_ok-size.after c.in_ok-size.ensures.settles; after = omega (arith, c.in_ok-size.ensures.after); inside = c.in_ok-size.ensures.inside }
