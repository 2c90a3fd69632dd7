use Rattle.pst_ast.specs.SharedView.{view_domain}
use Rattle.pst_parse_part.proofs.Maybe.{present_given, present_fails}
use Rattle.pst_parse_member.proofs.types.maybe_domain.Goals as goal
use Rattle.pst_parse_member.specs.Families.{domain_family}
use Rattle.pst_parse_expr.specs.Constraints.{is_at}
use Rattle.pst_token.specs.declared.kind.Kind.TheVariants as kind
use Rattle.std.proofs.Common.{arith, rules}
use Rattle.std.proofs.lemmas.Result.{err_from_is_err_and}

pub returns-in_err-domain : goal.returns-in_err-domain
returns-in_err-domain c =
    let p = err_from_is_err_and c.from_residual.result c.from_residual.ensures.1 in
    rw (p.1, p.2) (present_fails (is_at kind.In) (domain_family c.args.depth) c.args.tokens.now c.args.at (search rules) c.in_err-domain.field-0.0 c.in_err-domain.ensures)

pub returns : goal.returns
returns c = record { settles = present_given (is_at kind.In) (domain_family c.args.depth) c.args.tokens.now c.args.at (search rules) (view_domain c.in_ok-domain.domain) c.in_ok-domain.after c.in_ok-domain.ensures.settles; after = omega (arith, c.in_ok-domain.ensures.after); inside = c.in_ok-domain.ensures.inside }
