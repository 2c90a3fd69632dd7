use Rattle.pst_model.specs.ModelView.{view_model}
use Rattle.pst_known.specs.Known.{seen}
use Rattle.pst_new_refusals.specs.Newly.{AreFree}
use Rattle.pst_new_refusals.proofs.newly.some_node_refused.Given as goal

abbrev pub invariant-loop-n : goal.invariant-loop-n
invariant-loop-n l = AreFree (view_model l.scene.model.now) (seen l.scene) l.from l.n
