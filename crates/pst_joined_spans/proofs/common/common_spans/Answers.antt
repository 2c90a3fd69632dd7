use Rattle.std.proofs.Common.{arith, List, subst}
use Rattle.std.proofs.lemmas.List.{drop_all}
use Rattle.pst_expr.specs.declared.ranges.Span.{Span}
use Rattle.pst_joined_spans.proofs.Cutting.{IsLeft, at_step, at_last}
use Rattle.pst_joined_spans.proofs.common.common_spans.Goals as goal

pub loop-range-preserved : goal.loop-range-preserved
loop-range-preserved c =
    at_step c.args.spans.now c.loop-range.found.items c.args.others.now c.add_common.new.found.items c.loop-range.range-index _ (omega (arith, c.loop-range-test.true)) c.loop-range.invariant c.in_ok-add_common.ensures

pub returns : goal.returns
returns c =
    at_last c.args.spans.now c.loop-range.found.items c.args.others.now
    (subst (λ (l : List Span). IsLeft c.args.spans.now c.loop-range.found.items l c.args.others.now) (drop_all c.loop-range.range-index c.args.others.now (omega (arith, c.loop-range-test.false))) c.loop-range.invariant)
