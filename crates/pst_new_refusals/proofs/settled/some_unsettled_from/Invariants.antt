use Rattle.pst_model.specs.ModelView.{view_model}
use Rattle.pst_known.specs.Known.{seen}
use Rattle.pst_new_refusals.specs.Named.{rows}
use Rattle.pst_new_refusals.specs.Settled.{AreSettledFrom}
use Rattle.pst_new_refusals.proofs.settled.some_unsettled_from.Given as goal

abbrev pub invariant-loop-n : goal.invariant-loop-n
invariant-loop-n l = AreSettledFrom (view_model l.scene.model.now) (seen l.scene) (rows l.named) l.from l.n
