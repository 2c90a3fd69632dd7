use Rattle.std.proofs.Common.{◌≡◌, ℕ, ◌<◌, Some}
use Rattle.std.specs.Prelude.{slice_get}
use Rattle.pst_model.specs.ModelView.{view_model}
use Rattle.pst_known.specs.Known.{seen}
use Rattle.pst_new_refusals.specs.Named.{rows}
use Rattle.pst_new_refusals.specs.Settled.{IsSettledAt}
use Rattle.pst_new_refusals.proofs.settled.some_unsettled.Given as goal

abbrev pub invariant-loop-n : goal.invariant-loop-n
invariant-loop-n l = (i k : ℕ) → i < l.n-index → slice_get l.list i ≡ Some k → IsSettledAt (view_model l.scene.model.now) (seen l.scene) (rows l.named) k
