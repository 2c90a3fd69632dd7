use Rattle.pst_addr.proofs.Marking.{all_seen}
use Rattle.pst_addr.proofs.needed.look_back.Goals as goal

pub returns : goal.returns
returns c = all_seen c.args.plan.now c.args.asks.now c.asks.at c.asks.set c.asks.marks c.asks-test.false c.asks.invariant.seen
