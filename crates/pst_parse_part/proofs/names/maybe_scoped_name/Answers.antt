use Rattle.pst_parse_part.proofs.Maybe.{present_given, present_fails}
use Rattle.pst_parse_part.proofs.names.maybe_scoped_name.Goals as goal
use Rattle.pst_parse_part.specs.Families.{scoped_name_family}
use Rattle.pst_parse_expr.specs.Constraints.{is_at}
use Rattle.pst_token.specs.declared.kind.Kind.TheVariants as kind
use Rattle.std.proofs.Common.{arith, rules}
use Rattle.std.proofs.lemmas.Result.{err_from_is_err_and}

pub returns-in_err-scoped_name : goal.returns-in_err-scoped_name
returns-in_err-scoped_name c =
    let p = err_from_is_err_and c.from_residual.result c.from_residual.ensures.1 in
    rw (p.1, p.2) (present_fails (is_at kind.ColonColon) (scoped_name_family c.args.depth) c.args.tokens.now c.args.at (search rules) c.in_err-scoped_name.field-0.0 c.in_err-scoped_name.ensures)

pub returns : goal.returns
returns c = record { settles = present_given (is_at kind.ColonColon) (scoped_name_family c.args.depth) c.args.tokens.now c.args.at (search rules) c.in_ok-scoped_name.scoped_name c.in_ok-scoped_name.after c.in_ok-scoped_name.ensures.settles; after = omega (arith, c.in_ok-scoped_name.ensures.after); inside = c.in_ok-scoped_name.ensures.inside }
