-- What stands in blanks that are filled.
use Rattle.std.specs.Prelude.{ℕ, List}
use Rattle.pst_model.specs.ModelTree.{ModelTree}
use Rattle.pst_scen.specs.declared.scenario.Scenario.{Scenario}
use Rattle.pst_legal.specs.ValueReading.{with_firsts}
use Rattle.pst_few_places.specs.Fillings.{all_blanks, filled}
use Rattle.pst_blank_values.specs.Values.{blank_values, AreBare, IsWithValues}

-- Where nothing is filled in yet, a scenario with options in its blanks, in all or in the first ones, is the same but for the
-- values, and in each blank stands the value of its option, or nothing.
abbrev pub FilledBlanksStand : Type 0
FilledBlanksStand =
    (m : ModelTree) (u : Scenario) (chosen : List ℕ) → AreBare u.actions
    → IsWithValues m u (blank_values m u.actions (all_blanks m u) chosen) (filled m (all_blanks m u) chosen (with_firsts m u))
