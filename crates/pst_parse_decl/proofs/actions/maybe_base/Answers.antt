use Rattle.pst_parse_part.proofs.Maybe.{present_given, present_fails}
use Rattle.pst_parse_decl.proofs.actions.maybe_base.Goals as goal
use Rattle.pst_parse_decl.specs.Families.{base_family}
use Rattle.pst_parse_expr.specs.Constraints.{is_at}
use Rattle.pst_token.specs.declared.kind.Kind.TheVariants as kind
use Rattle.std.proofs.Common.{arith, rules}
use Rattle.std.proofs.lemmas.Result.{err_from_is_err_and}

pub returns-in_err-base : goal.returns-in_err-base
returns-in_err-base c =
    let p = err_from_is_err_and c.from_residual.result c.from_residual.ensures.1 in
    rw (p.1, p.2) (present_fails (is_at kind.Colon) (base_family c.args.depth) c.args.tokens.now c.args.at (search rules) c.in_err-base.field-0.0 c.in_err-base.ensures)

pub returns : goal.returns
returns c = record { settles = present_given (is_at kind.Colon) (base_family c.args.depth) c.args.tokens.now c.args.at (search rules) c.in_ok-base.base c.in_ok-base.after c.in_ok-base.ensures.settles; after = omega (arith, c.in_ok-base.ensures.after); inside = c.in_ok-base.ensures.inside }
