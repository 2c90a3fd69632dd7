use Rattle.pst_addr.proofs.Passing.{stops_before, goes_on}
use Rattle.pst_addr.proofs.first_fit.first_fit.Goals as goal

pub returns-then-address-ask : goal.returns-then-address-ask
returns-then-address-ask c =
    stops_before c.args.plan.now c.args.space c.args.ranges.now c.args.ask c.loop-k.k c.loop-k.address c.loop-k.invariant.0 _ _ c.loop-k.invariant.1 c.if-address-last.false c.requires.sorted c.loop-k-test.true c.if-address-ask.true

pub loop-k-preserved : goal.loop-k-preserved
loop-k-preserved c = (
  goes_on c.args.plan.now c.args.space c.args.ranges.now c.args.ask c.loop-k.k c.loop-k.address c.loop-k.invariant.0 _ c.loop-k-test.true c.if-address-ask.false c.in_ok-address-2.address c.in_ok-address-2.ensures,
  c.loop-k.invariant.1,
)
