use Rattle.pst_ast.specs.ExpressionView.{view_ranges}
use Rattle.pst_ast.specs.Limits.{counted}
use Rattle.pst_parse_member.proofs.types.domain.Goals as goal
use Rattle.pst_parse_member.specs.Families.{domain_family}
use Rattle.pst_parse_part.specs.Families.{ranges_family}
use Rattle.pst_reading.proofs.Reaching.{begin, step, mark_step, ends, fails, mark_fails}
use Rattle.pst_token.specs.declared.kind.Kind.TheVariants as kind
use Rattle.std.proofs.Common.{arith, ◌+◌}
use Rattle.std.proofs.lemmas.Result.{err_from_is_err_and}

pub returns-in_err-ranges : goal.returns-in_err-ranges
returns-in_err-ranges c =
    let p = err_from_is_err_and c.from_residual-in_err-ranges.result c.from_residual-in_err-ranges.ensures.1 in
    let r1 = mark_step (domain_family c.args.depth) c.args.tokens.now c.args.at c.args.at kind.In (counted c.args.depth 0) _ c.args.at (c.args.at + 1) c.in_ok-in_.in_ (omega arith) c.in_ok-in_.ensures.reads.0 (begin (domain_family c.args.depth) c.args.tokens.now c.args.at c.args.at) in
    let r2 = mark_step (domain_family c.args.depth) c.args.tokens.now c.args.at c.args.at kind.LeftBracket (counted c.args.depth 0) _ (c.args.at + 1) (c.args.at + 2) c.in_ok-left_bracket.left_bracket (omega arith) c.in_ok-left_bracket.ensures.reads.0 r1 in
    rw (p.1, p.2) (fails (domain_family c.args.depth) c.args.tokens.now c.args.at c.args.at (ranges_family c.args.depth) _ (c.args.at + 2) (c.args.at + 2) c.in_err-ranges.field-0.0 (omega arith) c.in_err-ranges.ensures r2)

pub returns-in_err-right_bracket : goal.returns-in_err-right_bracket
returns-in_err-right_bracket c =
    let p = err_from_is_err_and c.from_residual-in_err-right_bracket.result c.from_residual-in_err-right_bracket.ensures.1 in
    let r1 = mark_step (domain_family c.args.depth) c.args.tokens.now c.args.at c.args.at kind.In (counted c.args.depth 0) _ c.args.at (c.args.at + 1) c.in_ok-in_.in_ (omega arith) c.in_ok-in_.ensures.reads.0 (begin (domain_family c.args.depth) c.args.tokens.now c.args.at c.args.at) in
    let r2 = mark_step (domain_family c.args.depth) c.args.tokens.now c.args.at c.args.at kind.LeftBracket (counted c.args.depth 0) _ (c.args.at + 1) (c.args.at + 2) c.in_ok-left_bracket.left_bracket (omega arith) c.in_ok-left_bracket.ensures.reads.0 r1 in
    let r3 = step (domain_family c.args.depth) c.args.tokens.now c.args.at c.args.at (ranges_family c.args.depth) _ (c.args.at + 2) (c.args.at + 2) c.in_ok-ranges.after_ranges (view_ranges c.in_ok-ranges.ranges) (omega arith) (omega (arith, c.in_ok-ranges.ensures.after)) c.in_ok-ranges.ensures.settles r2 in
    rw (p.1, p.2) (mark_fails (domain_family c.args.depth) c.args.tokens.now c.args.at c.args.at kind.RightBracket (counted c.args.depth 0) _ c.in_ok-ranges.after_ranges c.in_err-right_bracket.field-0.0 c.in_ok-ranges.ensures.inside c.in_err-right_bracket.ensures.reads r3)

pub returns : goal.returns
returns c =
    let r1 = mark_step (domain_family c.args.depth) c.args.tokens.now c.args.at c.args.at kind.In (counted c.args.depth 0) _ c.args.at (c.args.at + 1) c.in_ok-in_.in_ (omega arith) c.in_ok-in_.ensures.reads.0 (begin (domain_family c.args.depth) c.args.tokens.now c.args.at c.args.at) in
    let r2 = mark_step (domain_family c.args.depth) c.args.tokens.now c.args.at c.args.at kind.LeftBracket (counted c.args.depth 0) _ (c.args.at + 1) (c.args.at + 2) c.in_ok-left_bracket.left_bracket (omega arith) c.in_ok-left_bracket.ensures.reads.0 r1 in
    let r3 = step (domain_family c.args.depth) c.args.tokens.now c.args.at c.args.at (ranges_family c.args.depth) _ (c.args.at + 2) (c.args.at + 2) c.in_ok-ranges.after_ranges (view_ranges c.in_ok-ranges.ranges) (omega arith) (omega (arith, c.in_ok-ranges.ensures.after)) c.in_ok-ranges.ensures.settles r2 in
    let r4 = mark_step (domain_family c.args.depth) c.args.tokens.now c.args.at c.args.at kind.RightBracket (counted c.args.depth 0) _ c.in_ok-ranges.after_ranges (c.in_ok-ranges.after_ranges + 1) c.in_ok-right_bracket.right_bracket (omega arith) c.in_ok-right_bracket.ensures.reads.0 r3 in
    record { settles = ends (domain_family c.args.depth) c.args.tokens.now c.args.at c.args.at _ (c.in_ok-ranges.after_ranges + 1) r4; after = omega (arith, c.in_ok-ranges.ensures.after); inside = (omega (arith, c.in_ok-right_bracket.ensures.reads.1)) }
