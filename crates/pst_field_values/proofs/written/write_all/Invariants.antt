use Rattle.pst_model.specs.ModelView.{view_model}
use Rattle.pst_known.specs.Known.{seen}
use Rattle.pst_field_values.specs.Writing.{AreOver}
use Rattle.pst_field_values.proofs.written.write_all.Given as goal

abbrev pub invariant-loop-constraint : goal.invariant-loop-constraint
invariant-loop-constraint l = AreOver (view_model l.scene.model.now) (seen l.scene) l.subject l.written
