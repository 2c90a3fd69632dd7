-- The law of budgets.
use Rattle.std.specs.Prelude.{ℕ, ◌≤◌, List}
use Rattle.pst_model.specs.ModelTree.{ModelTree}
use Rattle.pst_scen.specs.declared.scenario.Scenario.{Scenario}
use Rattle.pst_legal.specs.First.{ReadsLegal, Spent}
use Rattle.pst_live_lists.specs.Few.{FewLive, IsUpTo, IsSearched}

-- Where fewer live lists than the budget stand up to a list that reads a legal scenario of its level, and including it, the budget is spent in no level.
abbrev pub FoundWithinBudget : Type 0
FoundWithinBudget =
    (m : ModelTree) (root seed budget level : ℕ) (s : Scenario) (choices : List ℕ)
    → ReadsLegal m root seed s.level choices s → FewLive m root seed budget (IsUpTo s.level choices) → Spent m root seed level budget → ⊥

-- Where fewer stand in all levels that are searched, it is spent in none of these.
abbrev pub DoneWithinBudget : Type 0
DoneWithinBudget =
    (m : ModelTree) (root seed budget infer level : ℕ) → level ≤ infer → FewLive m root seed budget (IsSearched infer) → Spent m root seed level budget → ⊥
