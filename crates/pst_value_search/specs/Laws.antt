-- What values that are refused say of options.
use Rattle.std.specs.Prelude.{◌≡◌, ℕ, ℤ, List, [], ◌∷◌, ◌++◌, length, map, Some, slice_get}
use Rattle.pst_expr.specs.Tree.{view}
use Rattle.pst_expr.specs.Value.{variable_value}
use Rattle.pst_narrow.specs.Solutions.{AreMet}
use Rattle.pst_narrow.specs.Local.{LiesWithin}
use Rattle.pst_model.specs.ModelTree.{ModelTree}
use Rattle.pst_scen.specs.declared.scenario.Scenario.{Scenario}
use Rattle.pst_scen.specs.Refusals.{IsUnrefused}
use Rattle.pst_legal.specs.Constraints.{Holds}
use Rattle.pst_legal.specs.ValueReading.{with_firsts}
use Rattle.pst_few_places.specs.Fillings.{all_blanks, AreOptions, filled, named}
use Rattle.pst_blank_values.specs.Values.{blank_values}
use Rattle.pst_search_places.specs.Laws.{NoneHold}
use Rattle.pst_value_search.specs.Values.{Kept, Refuses, ExcludesNext}

-- where options keep all constraints of the scenario and a plan doesn't refuse them, their values meet these constraints; and they
-- lie within the bounds
pub record AreKeptBy (m : ModelTree) (u : Scenario) (k : Kept) : Type 0 where
  pub met : (chosen : List ℕ) → AreOptions m u.actions (all_blanks m u) chosen → Holds m (filled m (all_blanks m u) chosen (with_firsts m u))
      → IsUnrefused (filled m (all_blanks m u) chosen (with_firsts m u)) → AreMet (map view k.constraints) (blank_values m u.actions (all_blanks m u) chosen)
  pub within : (chosen : List ℕ) → AreOptions m u.actions (all_blanks m u) chosen → Holds m (filled m (all_blanks m u) chosen (with_firsts m u))
      → IsUnrefused (filled m (all_blanks m u) chosen (with_firsts m u)) → (v : ℕ) → LiesWithin k.bounds (blank_values m u.actions (all_blanks m u) chosen) v

-- the values are those that the choices name
pub record AreNamed (m : ModelTree) (seed : ℕ) (u : Scenario) (place : ℕ) (present : List ℕ) (values : List ℤ) : Type 0 where
  pub many : length values ≡ length present
  pub each : (i : ℕ) (v : ℤ) → slice_get values i ≡ Some v → variable_value (blank_values m u.actions (all_blanks m u) (named m seed u.actions (all_blanks m u) place present)) i ≡ Some v

-- Where values that choices name are refused, no options that agree with them at these places are kept by all constraints and a plan.
abbrev pub RefusalsHoldNothing : Type 0
RefusalsHoldNothing =
    (m : ModelTree) (seed : ℕ) (u : Scenario) (place : ℕ) (present : List ℕ) (k : Kept) (places : List ℕ)
    → AreKeptBy m u k → AreNamed m seed u place present k.values → Refuses k places → NoneHold m seed u place present places

-- So it is with one choice more, where its value is excluded by those that were given at these places.
abbrev pub ExcludedValuesHoldNothing : Type 0
ExcludedValuesHoldNothing =
    (m : ModelTree) (seed : ℕ) (u : Scenario) (place : ℕ) (present : List ℕ) (digit : ℕ) (k : Kept) (places : List ℕ) (value : ℤ)
    → AreKeptBy m u k → AreNamed m seed u place (present ++ digit ∷ []) (k.values ++ value ∷ []) → ExcludesNext k places value
    → NoneHold m seed u place (present ++ digit ∷ []) (length present ∷ places)
