-- How the table of slots is kept.
use Rattle.std.specs.Prelude.{◌≡◌, ◌≤◌, ℕ, suc, Bool, List, [], ◌∷◌, length, take, Option, Some, None, if◌then◌else◌}
use Rattle.std.specs.HashMap.{get}
use Rattle.pst_model.specs.ConstraintTree.{SlotTree}
use Rattle.pst_terms.specs.Slots.{same_slot}
use Rattle.pst_numbering.specs.contracts.reading.KeptSlotPartialEq.TheImpl as kept
use Rattle.pst_numbering.specs.declared.reading.KeptSlot.{KeptSlot}
use Rattle.pst_numbering.specs.declared.table.SlotTable.TheInside.{Inside}
use Rattle.pst_numbering.specs.Kept.{view_all, view_kept}

-- whether two keys are one
abbrev pub same_key : KeptSlot → KeptSlot → Bool
same_key a b = kept.eq-value.it a b

-- the number of the first slot that is that one, where the list begins with that number
abbrev pub number_from : ℕ → List SlotTree → SlotTree → Option ℕ
number_from n [] slot = None
number_from n (s ∷ more) slot = if same_slot slot s then Some n else number_from (suc n) more slot

-- the map has the number of the first of the mapped slots that is the key
pub record IsSlotTable (table : Inside) : Type 0 where
  pub within : table.mapped ≤ length table.slots.items
  pub numbers : (q : KeptSlot) → get same_key table.numbers q ≡ number_from 0 (view_all (take table.mapped table.slots.items)) (view_kept q)
