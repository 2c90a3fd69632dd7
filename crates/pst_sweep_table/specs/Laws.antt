-- The law of rows.
use Rattle.std.specs.Prelude.{◌≡◌, ◌⊎◌, ℕ, List}
use Rattle.pst_model.specs.ModelTree.{ModelTree}
use Rattle.pst_sweep_table.specs.declared.row.Outcome.{Outcome}
use Rattle.pst_sweep_table.specs.declared.row.Outcome.TheVariants.{Found, NoScenario, Budget}
use Rattle.pst_sweep_table.specs.Rows.{MayCome}

abbrev pub IsBudget : Outcome → Type 0
IsBudget (Found actions inferred) = ⊥
IsBudget NoScenario = ⊥
IsBudget (Budget level) = Unit {0}

-- A seed comes to one thing, or one of two is a spent budget.
abbrev pub RowsAreOne : Type 0
RowsAreOne =
    (m : ModelTree) (root infer budget seed : ℕ) (one other : Outcome) (uses others : List ℕ)
    → MayCome m root infer budget seed one uses → MayCome m root infer budget seed other others
    → ((one ≡ other) × (uses ≡ others)) ⊎ (IsBudget one ⊎ IsBudget other)
