-- Slots seen through a handle, or from an inline constraint.
use Rattle.std.specs.Prelude.{ℕ}
use Rattle.pst_model.specs.ConstraintTree.{SlotTree, Own, Object, ClaimField, Prev}
use Rattle.pst_numbering.specs.Kept.{outer_if, through}
use Rattle.pst_numbering.specs.declared.reading.OwnSlot.{OwnSlot}
use Rattle.pst_numbering.specs.declared.reading.OwnSlot.TheVariants as own
use Rattle.pst_path_readings.specs.declared.wrap.Wrap.{Wrap}
use Rattle.pst_path_readings.specs.declared.fields.FieldOf.{FieldOf}
use Rattle.pst_path_readings.specs.declared.fields.FieldOf.TheVariants as of

abbrev pub wrapped : Wrap → SlotTree → SlotTree
wrapped w slot = outer_if w.outer (through w.handle slot)

-- the slot of a field
abbrev pub slot_of : FieldOf → ℕ → SlotTree
slot_of of.Itself field = Own field
slot_of (of.Referenced reference) field = Object reference field
slot_of (of.Claimed claim) field = ClaimField claim field
slot_of of.Replaced field = Prev field

abbrev pub own_of : FieldOf → ℕ → OwnSlot
own_of of.Itself field = own.Own field
own_of (of.Referenced reference) field = own.Object reference field
own_of (of.Claimed claim) field = own.ClaimField claim field
own_of of.Replaced field = own.Prev field
