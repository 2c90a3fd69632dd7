-- What a search says.
use Rattle.std.specs.Prelude.{◌≡◌, ℕ, ◌<◌, ◌≤◌, Result, Ok, Err}
use Rattle.pst_model.specs.ModelTree.{ModelTree}
use Rattle.pst_scen.specs.declared.scenario.Scenario.{Scenario}
use Rattle.pst_scen.specs.Plan.{Entries}
use Rattle.pst_scen.specs.Plans.{IsPlanOf}
use Rattle.pst_legal.specs.Legal.{Legal}
use Rattle.pst_legal.specs.First.{IsFirst, Spent}
use Rattle.pst_search.specs.declared.first.SearchEnd.{SearchEnd}
use Rattle.pst_search.specs.declared.first.SearchEnd.TheVariants as search_end

-- The first legal scenario that infers at most so many actions, and its plan. No scenario only where none is legal. The budget
-- only where it is spent in a level that may be searched.
abbrev pub Searches : ModelTree → ℕ → ℕ → ℕ → ℕ → Result (Scenario × Entries) SearchEnd → Type 0
Searches m root seed infer budget (Ok found) = IsFirst m root seed infer found.0 × IsPlanOf found.0 found.1
Searches m root seed infer budget (Err search_end.NoScenario) = (s : Scenario) → s.level ≤ infer → Legal m root s → ⊥
Searches m root seed infer budget (Err (search_end.Budget level)) = (level ≤ infer) × Spent m root seed level budget
Searches m root seed infer budget (Err search_end.NoMemory) = Unit {0}

-- the answer where a budget is spent in a level: there is no budget of no list
abbrev pub IsSpentAt : ℕ → ℕ → SearchEnd → Type 0
IsSpentAt budget level search_end.NoScenario = ⊥
IsSpentAt budget level (search_end.Budget k) = (0 < budget) × (k ≡ level)
IsSpentAt budget level search_end.NoMemory = Unit {0}
