-- Constraints on the fields of a compound action that are being read.
use Rattle.std.specs.Prelude.{◌≡◌, ℕ, ℤ, List, ◌++◌, map, Option, Some, None}
use Rattle.pst_expr.specs.Tree.{view}
use Rattle.pst_narrow.specs.Solutions.{AreMet}
use Rattle.pst_narrow.specs.Local.{LiesWithin}
use Rattle.pst_model.specs.ModelTree.{ModelTree}
use Rattle.pst_scen.specs.declared.scenario.Scenario.{Scenario}
use Rattle.pst_legal.specs.Constraints.{Holds}
use Rattle.pst_value_search.specs.Values.{Kept}
use Rattle.pst_field_values.specs.Fields.{values_at, field_count, IsLater}
use Rattle.pst_field_values.specs.Quantities.{Quantity, quantity_values, BeginWithFields}

-- The values given are those of the fields that are read. In each later scenario whose constraints hold, the fields and what else the
-- constraints kept speak of meet them, and lie within the bounds: variable i is field i, and the further ones are others.
pub record AreFieldsKeptBy (m : ModelTree) (s : Scenario) (n : ℕ) (k : Kept) : Type 0 where
  pub known : k.values ≡ values_at s.nodes n
  pub quantities : List Quantity
  pub own : BeginWithFields n (field_count m s.nodes n) quantities
  pub met : (t : Scenario) → IsLater m s t → Holds m t → AreMet (map view k.constraints) (quantity_values m t quantities)
  pub within : (t : Scenario) → IsLater m s t → Holds m t → (v : ℕ) → LiesWithin k.bounds (quantity_values m t quantities) v

-- or no constraints of a later scenario hold
abbrev pub AreOfFields : ModelTree → Scenario → ℕ → Option Kept → Type 0
AreOfFields m s n None = (t : Scenario) → IsLater m s t → Holds m t → ⊥
AreOfFields m s n (Some k) = AreFieldsKeptBy m s n k

-- further values
abbrev pub with_values : Kept → List ℤ → Kept
with_values k values = record k { values = k.values ++ values }
