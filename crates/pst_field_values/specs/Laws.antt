-- Values of fields that are excluded.
use Rattle.std.specs.Prelude.{◌≡◌, ℕ, ◌<◌, ℤ, List, length, Some, slice_get}
use Rattle.pst_model.specs.ModelTree.{ModelTree}
use Rattle.pst_scen.specs.declared.scenario.Scenario.{Scenario}
use Rattle.pst_legal.specs.Constraints.{Holds}
use Rattle.pst_value_search.specs.Values.{Kept, ExcludesNext}
use Rattle.pst_field_values.specs.Fields.{values_at, field_count, IsLater}
use Rattle.pst_field_values.specs.Kept.{AreFieldsKeptBy}

-- Where a value is excluded by the values of the fields that are read, the constraints of no later scenario hold in which the next
-- field has it.
abbrev pub ExcludedFieldsHoldNothing : Type 0
ExcludedFieldsHoldNothing =
    (m : ModelTree) (s t : Scenario) (n : ℕ) (k : Kept) (places : List ℕ) (value : ℤ) → AreFieldsKeptBy m s n k → ExcludesNext k places value
    → length k.values < field_count m s.nodes n → IsLater m s t → Holds m t → slice_get (values_at t.nodes n) (length k.values) ≡ Some value → ⊥
