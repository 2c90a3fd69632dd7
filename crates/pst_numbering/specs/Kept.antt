-- Slots as they are kept while an expression is made.
use Rattle.std.specs.Prelude.{ℕ, Bool, List, map, Option, Some, None, if◌then◌else◌}
use Rattle.pst_model.specs.ConstraintTree.{SlotTree, Own, Object, First, ClaimId, ClaimField, Prev, IsFirst, Id, Index, Local, Through, Outer}
use Rattle.pst_terms.specs.Fields.{counted}
use Rattle.pst_terms.specs.Terms.{Reading, ANumber, AThing, AnArray}
use Rattle.pst_numbering.specs.declared.reading.OwnSlot.{OwnSlot}
use Rattle.pst_numbering.specs.declared.reading.OwnSlot.TheVariants as own
use Rattle.pst_numbering.specs.declared.reading.KeptSlot.{KeptSlot}
use Rattle.pst_numbering.specs.declared.reading.PathReading.{PathReading}
use Rattle.pst_numbering.specs.declared.reading.PathReading.TheVariants as reading

abbrev pub view_own : OwnSlot → SlotTree
view_own (own.Own field) = Own field
view_own (own.Object reference field) = Object reference field
view_own (own.First reference) = First reference
view_own (own.ClaimId claim) = ClaimId claim
view_own (own.ClaimField claim field) = ClaimField claim field
view_own (own.Prev field) = Prev field
view_own own.IsFirst = IsFirst
view_own own.Id = Id
view_own (own.Index level) = Index level
view_own (own.Local local) = Local local

abbrev pub through : Option ℕ → SlotTree → SlotTree
through None slot = slot
through (Some handle) slot = Through handle slot

abbrev pub outer_if : Bool → SlotTree → SlotTree
outer_if outside slot = if outside then Outer slot else slot

abbrev pub view_kept : KeptSlot → SlotTree
view_kept s = outer_if s.outer (through s.handle (view_own s.own))

abbrev pub view_all : List KeptSlot → List SlotTree
view_all slots = map view_kept slots

-- ---- fields

-- the number of a field, 0 for a slot that is no field
abbrev pub field_in : OwnSlot → ℕ
field_in (own.Own field) = field
field_in (own.Object reference field) = field
field_in (own.ClaimField claim field) = field
field_in (own.Prev field) = field
field_in _ = 0

-- a slot with another field
abbrev pub slot_at : OwnSlot → ℕ → OwnSlot
slot_at (own.Own _) field = own.Own field
slot_at (own.Object reference _) field = own.Object reference field
slot_at (own.ClaimField claim _) field = own.ClaimField claim field
slot_at (own.Prev _) field = own.Prev field
slot_at other field = other

abbrev pub kept_at : KeptSlot → ℕ → SlotTree
kept_at s field = view_kept (record s { own = slot_at s.own field })

-- so many slots that differ in their fields, of which the first is given
abbrev pub elements_of : KeptSlot → ℕ → List SlotTree
elements_of first count = map (kept_at first) (counted (field_in first.own) count)

abbrev pub view_reading : PathReading → Reading SlotTree
view_reading (reading.Number n) = ANumber n
view_reading (reading.Slot slot) = AThing (view_kept slot)
view_reading (reading.Elements first count) = AnArray (elements_of first count)
