use Rattle.pst_model.specs.ModelView.{view_model}
use Rattle.pst_known.specs.Known.{seen}
use Rattle.pst_new_refusals.specs.Settled.{AreLookingFree}
use Rattle.pst_new_refusals.proofs.looking.some_looking_refused.Given as goal

abbrev pub invariant-loop-n : goal.invariant-loop-n
invariant-loop-n l = AreLookingFree (view_model l.scene.model.now) (seen l.scene) l.top l.handle l.n
