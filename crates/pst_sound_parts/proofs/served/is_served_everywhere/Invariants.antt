use Rattle.std.proofs.Common.{◌≡◌, ℕ, ◌<◌, slice_get, Some}
use Rattle.pst_model.specs.declared.model.Part.{Part}
use Rattle.pst_model.specs.ModelView.{view_model, view_action}
use Rattle.pst_model.specs.Served.{IsServedIn}
use Rattle.pst_sound_parts.proofs.served.is_served_everywhere.Given as goal

abbrev pub invariant-loop-instance : goal.invariant-loop-instance
invariant-loop-instance l = (instance : ℕ) (part : Part) → instance < l.instance → slice_get l.model.instances.items instance ≡ Some part → IsServedIn (view_model l.model) l.number (view_action l.action) instance part
