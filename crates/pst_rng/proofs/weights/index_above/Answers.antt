use Rattle.std.proofs.Common.{arith}
use Rattle.pst_rng.proofs.WeightLemmas.{least_above}
use Rattle.pst_rng.proofs.weights.index_above.Goals as goal

pub returns-then-left-weight-clause-least : goal.returns-then-left-weight-clause-least
returns-then-left-weight-clause-least c =
    least_above _ c.loop-index.left _ _ c.loop-index-test.true c.loop-index.invariant.summed (omega arith)
