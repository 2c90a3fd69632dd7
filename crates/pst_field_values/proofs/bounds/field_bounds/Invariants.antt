use Rattle.std.proofs.Common.{◌≡◌}
use Rattle.pst_model.specs.ModelView.{view_model}
use Rattle.pst_known.specs.Known.{seen}
use Rattle.pst_field_values.specs.Quantities.{own_quantities, quantity_bounds}
use Rattle.pst_field_values.proofs.bounds.field_bounds.Given as goal

abbrev pub invariant-loop-field : goal.invariant-loop-field
invariant-loop-field l = l.bounds.items ≡ quantity_bounds (view_model l.scene.model.now) (seen l.scene) (own_quantities l.subject.node l.field)
