use Rattle.std.proofs.Common.{◌≡◌, ℕ, length, map, Some}
use Rattle.std.specs.Prelude.{slice_get}
use Rattle.pst_model.specs.ConstraintTree.{SlotTree, view_slot}
use Rattle.pst_model.specs.ModelView.{view_model}
use Rattle.pst_blanks.specs.Blanks.{blank_of}
use Rattle.pst_known.specs.Known.{seen}
use Rattle.pst_constraint_sites.specs.Senses.{sense_at}
use Rattle.pst_constraint_sites.specs.Views.{view_site}
use Rattle.pst_written_constraints.specs.declared.term.Term.{Term}
use Rattle.pst_written_constraints.specs.Terms.{IsTermOf}
use Rattle.pst_written_constraints.proofs.numbers.terms_of.Given as goal

abbrev pub invariant-loop-slot : goal.invariant-loop-slot
invariant-loop-slot l =
    (length l.terms.items ≡ l.slot-index)
    × ((i : ℕ) (slot : SlotTree) (x : Term) → slice_get (map view_slot l.slots) i ≡ Some slot → slice_get l.terms.items i ≡ Some x → IsTermOf (map blank_of l.places) (sense_at (view_model l.scene.model.now) (seen l.scene) (view_site l.site) slot) x)
