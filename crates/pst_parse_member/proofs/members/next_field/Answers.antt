use Rattle.pst_ast.specs.ExpressionView.{view_part}
use Rattle.pst_ast.specs.Limits.{counted}
use Rattle.pst_parse_member.proofs.members.next_field.Goals as goal
use Rattle.pst_parse_member.specs.Families.{part_family, next_field_family}
use Rattle.pst_reading.proofs.Reaching.{begin, step, mark_step, ends, fails}
use Rattle.pst_token.specs.declared.kind.Kind.TheVariants as kind
use Rattle.std.proofs.Common.{arith, ◌+◌}
use Rattle.std.proofs.lemmas.Result.{err_from_is_err_and}

pub returns-in_err-part : goal.returns-in_err-part
returns-in_err-part c =
    let p = err_from_is_err_and c.from_residual-in_err-part.result c.from_residual-in_err-part.ensures.1 in
    let r1 = mark_step (next_field_family c.args.depth) c.args.tokens.now c.args.at c.args.at kind.Comma (counted c.args.depth 0) _ c.args.at (c.args.at + 1) c.in_ok-comma.comma (omega arith) c.in_ok-comma.ensures.reads.0 (begin (next_field_family c.args.depth) c.args.tokens.now c.args.at c.args.at) in
    rw (p.1, p.2) (fails (next_field_family c.args.depth) c.args.tokens.now c.args.at c.args.at (part_family c.args.depth) _ (c.args.at + 1) (c.args.at + 1) c.in_err-part.field-0.0 (omega arith) c.in_err-part.ensures r1)

pub returns : goal.returns
returns c =
    let r1 = mark_step (next_field_family c.args.depth) c.args.tokens.now c.args.at c.args.at kind.Comma (counted c.args.depth 0) _ c.args.at (c.args.at + 1) c.in_ok-comma.comma (omega arith) c.in_ok-comma.ensures.reads.0 (begin (next_field_family c.args.depth) c.args.tokens.now c.args.at c.args.at) in
    let r2 = step (next_field_family c.args.depth) c.args.tokens.now c.args.at c.args.at (part_family c.args.depth) _ (c.args.at + 1) (c.args.at + 1) c.in_ok-part.after_part (view_part c.in_ok-part.part) (omega arith) (omega (arith, c.in_ok-part.ensures.after)) c.in_ok-part.ensures.settles r1 in
    record { settles = ends (next_field_family c.args.depth) c.args.tokens.now c.args.at c.args.at _ c.in_ok-part.after_part r2; after = omega (arith, c.in_ok-part.ensures.after); inside = c.in_ok-part.ensures.inside }
