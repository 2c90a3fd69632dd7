use Rattle.pst_ast.specs.SharedView.{view_plain, view_domain}
use Rattle.pst_parse_member.proofs.Kept.{part_fault, part_read}
use Rattle.pst_parse_member.proofs.types.plain_type.Goals as goal
use Rattle.pst_parse_part.specs.Choices.{optional}
use Rattle.pst_parse_member.specs.Families.{domain_family, plain_type_family}
use Rattle.pst_parse_part.specs.Families.{plain_family}
use Rattle.pst_parse_expr.specs.Constraints.{is_at}
use Rattle.pst_reading.proofs.Reaching.{begin, step, ends, fails}
use Rattle.pst_token.specs.declared.kind.Kind.TheVariants as kind
use Rattle.std.proofs.Common.{arith}
use Rattle.std.proofs.lemmas.Result.{err_from_is_err_and}
use Rattle.std.specs.Option.{option_map}

pub returns-in_err-head : goal.returns-in_err-head
returns-in_err-head c =
    let p = err_from_is_err_and c.from_residual.result c.from_residual.ensures.1 in
    rw (p.1, p.2) (fails (plain_type_family c.args.depth) c.args.tokens.now c.args.at c.args.at (plain_family c.args.depth) _ c.args.at c.args.at c.in_err-head.field-0.0 (omega arith) c.in_err-head.ensures (begin (plain_type_family c.args.depth) c.args.tokens.now c.args.at c.args.at))

pub returns-in_err-plain : goal.returns-in_err-plain
returns-in_err-plain c =
    let p = err_from_is_err_and c.from_residual-in_err-plain.result c.from_residual-in_err-plain.ensures.1 in
    let r1 = step (plain_type_family c.args.depth) c.args.tokens.now c.args.at c.args.at (plain_family c.args.depth) _ c.args.at c.args.at c.in_ok-head.after_plain (view_plain c.in_ok-head.head) (omega arith) (omega (arith, c.in_ok-head.ensures.after)) c.in_ok-head.ensures.settles (begin (plain_type_family c.args.depth) c.args.tokens.now c.args.at c.args.at) in
    rw (p.1, p.2) (fails (plain_type_family c.args.depth) c.args.tokens.now c.args.at c.args.at (optional (is_at kind.In) (domain_family c.args.depth)) _ c.in_ok-head.after_plain c.in_ok-head.after_plain c.in_err-plain.field-0.0 (omega (arith, c.in_ok-head.ensures.after)) (part_fault (option_map view_domain) (optional (is_at kind.In) (domain_family c.args.depth)) c.args.tokens.now c.in_ok-head.after_plain c.in_ok-head.after_plain 0 _ _ c.in_err-plain.ensures.err c.maybe_domain-behind.ensures) r1)

pub returns : goal.returns
returns c =
    let read = part_read (option_map view_domain) (optional (is_at kind.In) (domain_family c.args.depth)) c.args.tokens.now c.in_ok-head.after_plain c.in_ok-head.after_plain 0 _ _ c.in_ok-plain.ensures.ok.1 c.maybe_domain-behind.ensures in
    let r1 = step (plain_type_family c.args.depth) c.args.tokens.now c.args.at c.args.at (plain_family c.args.depth) _ c.args.at c.args.at c.in_ok-head.after_plain (view_plain c.in_ok-head.head) (omega arith) (omega (arith, c.in_ok-head.ensures.after)) c.in_ok-head.ensures.settles (begin (plain_type_family c.args.depth) c.args.tokens.now c.args.at c.args.at) in
    let r2 = step (plain_type_family c.args.depth) c.args.tokens.now c.args.at c.args.at (optional (is_at kind.In) (domain_family c.args.depth)) _ c.in_ok-head.after_plain c.in_ok-head.after_plain c.in_ok-plain.after_domain (option_map view_domain c.in_ok-plain.domain) (omega (arith, c.in_ok-head.ensures.after)) (omega (arith, read.after)) read.settles r1 in
    record { settles = rw c.in_ok-plain.ensures.ok.0 (ends (plain_type_family c.args.depth) c.args.tokens.now c.args.at c.args.at _ c.in_ok-plain.after_domain r2); after = omega (arith, c.in_ok-head.ensures.after, read.after); inside = read.inside }
