-- Blanks with options in them.
use Rattle.std.specs.Prelude.{◌≡◌, ℕ, ◌+◌, ◌<◌, List, [], ◌∷◌, ◌++◌, length, Some, slice_get}
use Rattle.pst_rng.specs.Words.{start_of}
use Rattle.pst_model.specs.ModelTree.{ModelTree}
use Rattle.pst_scen.specs.declared.act.Act.{Act}
use Rattle.pst_scen.specs.declared.scenario.Scenario.{Scenario}
use Rattle.pst_legal.specs.Blanks.{Blank, options, claim_blanks, value_blanks}
use Rattle.pst_legal.specs.Reading.{option_at}
use Rattle.pst_legal.specs.ValueReading.{with_option}

-- all blanks of a scenario whose needs have their sources
abbrev pub all_blanks : ModelTree → Scenario → List Blank
all_blanks m u = claim_blanks m u.actions ++ value_blanks m u.actions

-- an option of each blank
pub record AreOptions (m : ModelTree) (acts : List Act) (blanks : List Blank) (chosen : List ℕ) : Type 0 where
  pub many : length chosen ≡ length blanks
  pub below : (i : ℕ) (blank : Blank) (k : ℕ) → slice_get blanks i ≡ Some blank → slice_get chosen i ≡ Some k → k < options m acts blank

-- the scenario with these options in its blanks
abbrev pub filled : ModelTree → List Blank → List ℕ → Scenario → Scenario
filled m [] chosen s = s
filled m (blank ∷ blanks) [] s = s
filled m (blank ∷ blanks) (k ∷ chosen) s = filled m blanks chosen (with_option m k blank s)

-- the options that choices name, from a place on
abbrev pub named : ModelTree → ℕ → List Act → List Blank → ℕ → List ℕ → List ℕ
named m seed acts [] place choices = []
named m seed acts (blank ∷ blanks) place [] = []
named m seed acts (blank ∷ blanks) place (digit ∷ choices) =
    option_at (start_of seed place (options m acts blank)) (options m acts blank) digit ∷ named m seed acts blanks (place + 1) choices
