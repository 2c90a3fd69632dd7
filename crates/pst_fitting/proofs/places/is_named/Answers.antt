use Rattle.std.proofs.Common.{arith}
use Rattle.pst_fitting.proofs.PlaceLemmas.{contains_at}
use Rattle.pst_fitting.proofs.places.is_named.Goals as goal

pub returns-then-other-place : goal.returns-then-other-place
returns-then-other-place c e = contains_at c.args.places.now c.loop-other.other-index _ (omega arith) (omega arith)
