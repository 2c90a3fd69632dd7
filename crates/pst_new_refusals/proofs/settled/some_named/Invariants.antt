use Rattle.std.proofs.Common.{◌≡◌, ℕ, ◌<◌, Some}
use Rattle.std.specs.Prelude.{slice_get}
use Rattle.pst_new_refusals.specs.Named.{rows}
use Rattle.pst_new_refusals.specs.Settled.{IsNearAt}
use Rattle.pst_new_refusals.proofs.settled.some_named.Given as goal

abbrev pub invariant-loop-n : goal.invariant-loop-n
invariant-loop-n l = (i k : ℕ) → i < l.n-index → slice_get l.list i ≡ Some k → IsNearAt l.nodes (rows l.named) k
