-- What the search of all levels says.
use Rattle.std.specs.Prelude.{◌≡◌, ℕ, ◌+◌, ◌<◌, ◌≤◌, List, length, sum_by, Some, slice_get}
use Rattle.pst_scen.specs.declared.scenario.Scenario.{Scenario}
use Rattle.pst_legal.specs.ValueReading.{Whole}
use Rattle.pst_legal.specs.Legal.{Legal}
use Rattle.pst_legal.specs.First.{NoneBelow, AreLive, IsFirst, Spent}
use Rattle.pst_search_loop.specs.declared.levels.Outcome.{Outcome}
use Rattle.pst_search_loop.specs.declared.levels.Outcome.TheVariants as outcome
use Rattle.pst_search_loop.specs.Kept.{Kept, at_level, answer}

-- the levels below have no legal scenario, and something of the budget is left behind their live lists
pub record ArePast (k : Kept) (level budget left : ℕ) : Type 0 where
  pub below : NoneBelow k.model k.root level
  pub lists : List (List (List ℕ))
  pub levels : length lists ≡ level
  pub live : (j : ℕ) (of_level : List (List ℕ)) → slice_get lists j ≡ Some of_level → AreLive k.model k.root k.seed j of_level
  pub count : sum_by length lists + left ≡ budget
  pub more : 0 < left

-- the same but for the level and the choices
abbrev pub IsOfSearch : Kept → Kept → Type 0
IsOfSearch k l = (level : ℕ) → at_level l level ≡ at_level k level

abbrev pub Concludes : Outcome → Kept → Kept → ℕ → ℕ → Type 0
Concludes outcome.Found old new infer budget = (s : Scenario) × (answer new ≡ Whole s) × IsFirst old.model old.root old.seed infer s
Concludes outcome.NoScenario old new infer budget = (s : Scenario) → s.level ≤ infer → Legal old.model old.root s → ⊥
Concludes (outcome.Budget level) old new infer budget = (level ≤ infer) × Spent old.model old.root old.seed level budget
