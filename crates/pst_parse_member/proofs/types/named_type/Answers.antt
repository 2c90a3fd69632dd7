use Rattle.pst_ast.specs.SharedView.{view_domain}
use Rattle.pst_parse_member.proofs.types.named_type.Goals as goal
use Rattle.pst_parse_part.specs.Choices.{optional}
use Rattle.pst_parse_member.specs.Families.{domain_family, named_type_family}
use Rattle.pst_parse_part.specs.Families.{type_name_family}
use Rattle.pst_parse_expr.specs.Constraints.{is_at}
use Rattle.pst_reading.proofs.Reaching.{begin, step, ends, fails}
use Rattle.pst_token.specs.declared.kind.Kind.TheVariants as kind
use Rattle.std.proofs.Common.{arith}
use Rattle.std.proofs.lemmas.Result.{err_from_is_err_and}
use Rattle.std.specs.Option.{option_map}

pub returns-in_err-name : goal.returns-in_err-name
returns-in_err-name c =
    let p = err_from_is_err_and c.from_residual.result c.from_residual.ensures.1 in
    rw (p.1, p.2) (fails (named_type_family c.args.depth) c.args.tokens.now c.args.at c.args.at (type_name_family c.args.depth) _ c.args.at c.args.at c.in_err-name.field-0.0 (omega arith) c.in_err-name.ensures (begin (named_type_family c.args.depth) c.args.tokens.now c.args.at c.args.at))

pub returns-in_err-domain : goal.returns-in_err-domain
returns-in_err-domain c =
    let p = err_from_is_err_and c.from_residual-in_err-domain.result c.from_residual-in_err-domain.ensures.1 in
    let r1 = step (named_type_family c.args.depth) c.args.tokens.now c.args.at c.args.at (type_name_family c.args.depth) _ c.args.at c.args.at c.in_ok-name.after_name c.in_ok-name.name (omega arith) (omega (arith, c.in_ok-name.ensures.after)) c.in_ok-name.ensures.settles (begin (named_type_family c.args.depth) c.args.tokens.now c.args.at c.args.at) in
    rw (p.1, p.2) (fails (named_type_family c.args.depth) c.args.tokens.now c.args.at c.args.at (optional (is_at kind.In) (domain_family c.args.depth)) _ c.in_ok-name.after_name c.in_ok-name.after_name c.in_err-domain.field-0.0 (omega (arith, c.in_ok-name.ensures.after)) c.in_err-domain.ensures r1)

pub returns : goal.returns
returns c =
    let r1 = step (named_type_family c.args.depth) c.args.tokens.now c.args.at c.args.at (type_name_family c.args.depth) _ c.args.at c.args.at c.in_ok-name.after_name c.in_ok-name.name (omega arith) (omega (arith, c.in_ok-name.ensures.after)) c.in_ok-name.ensures.settles (begin (named_type_family c.args.depth) c.args.tokens.now c.args.at c.args.at) in
    let r2 = step (named_type_family c.args.depth) c.args.tokens.now c.args.at c.args.at (optional (is_at kind.In) (domain_family c.args.depth)) _ c.in_ok-name.after_name c.in_ok-name.after_name c.in_ok-domain.after_domain (option_map view_domain c.in_ok-domain.domain) (omega (arith, c.in_ok-name.ensures.after)) (omega (arith, c.in_ok-domain.ensures.after)) c.in_ok-domain.ensures.settles r1 in
    record { settles = ends (named_type_family c.args.depth) c.args.tokens.now c.args.at c.args.at _ c.in_ok-domain.after_domain r2; after = omega (arith, c.in_ok-name.ensures.after, c.in_ok-domain.ensures.after); inside = c.in_ok-domain.ensures.inside }
