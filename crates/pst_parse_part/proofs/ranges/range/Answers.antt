use Rattle.pst_ast.specs.ExpressionView.{view_expr}
use Rattle.pst_ast.specs.Limits.{counted}
use Rattle.pst_parse_part.proofs.ranges.range.Goals as goal
use Rattle.pst_parse_part.specs.Families.{range_family}
use Rattle.pst_parse_expr.specs.ConstraintFamilies.{outermost_family}
use Rattle.pst_reading.proofs.Reaching.{begin, step, mark_step, choose, ends, fails}
use Rattle.pst_token.specs.declared.kind.Kind.TheVariants as kind
use Rattle.std.proofs.Common.{arith, rules, ◌+◌, true, false}
use Rattle.std.proofs.lemmas.Result.{err_from_is_err_and}

pub returns-in_err-low : goal.returns-in_err-low
returns-in_err-low c =
    let p = err_from_is_err_and c.from_residual.result c.from_residual.ensures.1 in
    rw (p.1, p.2) (fails (range_family c.args.depth) c.args.tokens.now c.args.at c.args.at (outermost_family c.args.depth) _ c.args.at c.args.at c.in_err-low.field-0.0 (omega arith) c.in_err-low.ensures (begin (range_family c.args.depth) c.args.tokens.now c.args.at c.args.at))

pub returns-then-not-is : goal.returns-then-not-is
returns-then-not-is c =
    let r1 = step (range_family c.args.depth) c.args.tokens.now c.args.at c.args.at (outermost_family c.args.depth) _ c.args.at c.args.at c.in_ok-low.after_low (view_expr c.in_ok-low.low) (omega arith) (omega (arith, c.in_ok-low.ensures.after)) c.in_ok-low.ensures.settles (begin (range_family c.args.depth) c.args.tokens.now c.args.at c.args.at) in
    let r2 = choose (range_family c.args.depth) c.args.tokens.now c.args.at c.args.at kind.DotDot _ _ c.in_ok-low.after_low false (search rules) r1 in
    record { settles = ends (range_family c.args.depth) c.args.tokens.now c.args.at c.args.at _ c.in_ok-low.after_low r2; after = omega (arith, c.in_ok-low.ensures.after); inside = c.in_ok-low.ensures.inside }

pub returns-in_err-high : goal.returns-in_err-high
returns-in_err-high c =
    let p = err_from_is_err_and c.from_residual-in_err-high.result c.from_residual-in_err-high.ensures.1 in
    let r1 = step (range_family c.args.depth) c.args.tokens.now c.args.at c.args.at (outermost_family c.args.depth) _ c.args.at c.args.at c.in_ok-low.after_low (view_expr c.in_ok-low.low) (omega arith) (omega (arith, c.in_ok-low.ensures.after)) c.in_ok-low.ensures.settles (begin (range_family c.args.depth) c.args.tokens.now c.args.at c.args.at) in
    let r2 = choose (range_family c.args.depth) c.args.tokens.now c.args.at c.args.at kind.DotDot _ _ c.in_ok-low.after_low true (search rules) r1 in
    let r3 = mark_step (range_family c.args.depth) c.args.tokens.now c.args.at c.args.at kind.DotDot (counted c.args.depth 0) _ c.in_ok-low.after_low (c.in_ok-low.after_low + 1) c.in_ok-dots.dots (omega arith) c.in_ok-dots.ensures.reads.0 r2 in
    rw (p.1, p.2) (fails (range_family c.args.depth) c.args.tokens.now c.args.at c.args.at (outermost_family c.args.depth) _ (c.in_ok-low.after_low + 1) (c.in_ok-low.after_low + 1) c.in_err-high.field-0.0 (omega (arith, c.in_ok-low.ensures.after)) c.in_err-high.ensures r3)

pub returns : goal.returns
returns c =
    let r1 = step (range_family c.args.depth) c.args.tokens.now c.args.at c.args.at (outermost_family c.args.depth) _ c.args.at c.args.at c.in_ok-low.after_low (view_expr c.in_ok-low.low) (omega arith) (omega (arith, c.in_ok-low.ensures.after)) c.in_ok-low.ensures.settles (begin (range_family c.args.depth) c.args.tokens.now c.args.at c.args.at) in
    let r2 = choose (range_family c.args.depth) c.args.tokens.now c.args.at c.args.at kind.DotDot _ _ c.in_ok-low.after_low true (search rules) r1 in
    let r3 = mark_step (range_family c.args.depth) c.args.tokens.now c.args.at c.args.at kind.DotDot (counted c.args.depth 0) _ c.in_ok-low.after_low (c.in_ok-low.after_low + 1) c.in_ok-dots.dots (omega arith) c.in_ok-dots.ensures.reads.0 r2 in
    let r4 = step (range_family c.args.depth) c.args.tokens.now c.args.at c.args.at (outermost_family c.args.depth) _ (c.in_ok-low.after_low + 1) (c.in_ok-low.after_low + 1) c.in_ok-high.after_high (view_expr c.in_ok-high.high) (omega (arith, c.in_ok-low.ensures.after)) (omega (arith, c.in_ok-high.ensures.after)) c.in_ok-high.ensures.settles r3 in
    record { settles = ends (range_family c.args.depth) c.args.tokens.now c.args.at c.args.at _ c.in_ok-high.after_high r4; after = omega (arith, c.in_ok-low.ensures.after, c.in_ok-high.ensures.after); inside = c.in_ok-high.ensures.inside }
