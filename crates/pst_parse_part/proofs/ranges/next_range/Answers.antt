use Rattle.pst_ast.specs.ExpressionView.{view_range}
use Rattle.pst_ast.specs.Limits.{counted}
use Rattle.pst_parse_part.proofs.ranges.next_range.Goals as goal
use Rattle.pst_parse_part.specs.Families.{range_family, next_range_family}
use Rattle.pst_reading.proofs.Reaching.{begin, step, mark_step, ends, fails}
use Rattle.pst_token.specs.declared.kind.Kind.TheVariants as kind
use Rattle.std.proofs.Common.{arith, ◌+◌}
use Rattle.std.proofs.lemmas.Result.{err_from_is_err_and}

pub returns-in_err-range : goal.returns-in_err-range
returns-in_err-range c =
    let p = err_from_is_err_and c.from_residual-in_err-range.result c.from_residual-in_err-range.ensures.1 in
    let r1 = mark_step (next_range_family c.args.depth) c.args.tokens.now c.args.at c.args.at kind.Comma (counted c.args.depth 0) _ c.args.at (c.args.at + 1) c.in_ok-comma.comma (omega arith) c.in_ok-comma.ensures.reads.0 (begin (next_range_family c.args.depth) c.args.tokens.now c.args.at c.args.at) in
    rw (p.1, p.2) (fails (next_range_family c.args.depth) c.args.tokens.now c.args.at c.args.at (range_family c.args.depth) _ (c.args.at + 1) (c.args.at + 1) c.in_err-range.field-0.0 (omega arith) c.in_err-range.ensures r1)

pub returns : goal.returns
returns c =
    let r1 = mark_step (next_range_family c.args.depth) c.args.tokens.now c.args.at c.args.at kind.Comma (counted c.args.depth 0) _ c.args.at (c.args.at + 1) c.in_ok-comma.comma (omega arith) c.in_ok-comma.ensures.reads.0 (begin (next_range_family c.args.depth) c.args.tokens.now c.args.at c.args.at) in
    let r2 = step (next_range_family c.args.depth) c.args.tokens.now c.args.at c.args.at (range_family c.args.depth) _ (c.args.at + 1) (c.args.at + 1) c.in_ok-range.after_range (view_range c.in_ok-range.range) (omega arith) (omega (arith, c.in_ok-range.ensures.after)) c.in_ok-range.ensures.settles r1 in
    record { settles = ends (next_range_family c.args.depth) c.args.tokens.now c.args.at c.args.at _ c.in_ok-range.after_range r2; after = omega (arith, c.in_ok-range.ensures.after); inside = c.in_ok-range.ensures.inside }
