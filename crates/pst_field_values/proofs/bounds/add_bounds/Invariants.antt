use Rattle.std.proofs.Common.{◌≡◌, ◌++◌, map, drop}
use Rattle.pst_model.specs.ConstraintTree.{view_slot}
use Rattle.pst_model.specs.ModelView.{view_model}
use Rattle.pst_legal.specs.Standing.{bound_of}
use Rattle.pst_known.specs.Known.{seen}
use Rattle.pst_constraint_sites.specs.Sites.{slot_at}
use Rattle.pst_field_values.specs.Subjects.{site_of}
use Rattle.pst_field_values.proofs.bounds.add_bounds.Given as goal

abbrev pub invariant-loop-slot : goal.invariant-loop-slot
invariant-loop-slot l =
    l.bounds.items ++ map (λ slot. bound_of (slot_at (view_model l.scene.model.now) (seen l.scene) (site_of l.subject l.position) slot)) (map view_slot (drop l.slot-index l.slots))
    ≡ l.initial.bounds.items ++ map (λ slot. bound_of (slot_at (view_model l.scene.model.now) (seen l.scene) (site_of l.subject l.position) slot)) (map view_slot l.slots)
