use Rattle.pst_model.specs.ModelView.{view_model}
use Rattle.pst_known.specs.Known.{seen}
use Rattle.pst_new_refusals.specs.Newly.{AreTraversedFree}
use Rattle.pst_new_refusals.proofs.newly.some_traversal_refused.Given as goal

abbrev pub invariant-loop-n : goal.invariant-loop-n
invariant-loop-n l = AreTraversedFree (view_model l.scene.model.now) (seen l.scene) l.from l.n
