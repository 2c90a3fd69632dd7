-- Rows of a sweep are fixed where the budget is enough.
use Rattle.std.proofs.Common.{◌≡◌, ℕ, List, length, refl, ap}
use Rattle.pst_scen.specs.declared.scenario.Scenario.{Scenario}
use Rattle.pst_legal.specs.Laws.{FirstIsOne}
use Rattle.pst_live_lists.specs.Laws.{FoundWithinBudget, DoneWithinBudget}
use Rattle.pst_sweep_table.specs.declared.row.Outcome.TheVariants as row
use Rattle.pst_sweep_table.specs.Counts.{uses_of}
use Rattle.pst_sweep_table.specs.Rows.{IsFound, HasNone, IsSpent}
use Rattle.pst_complete_answers.specs.Laws.{FoundRowsAreFixed, MissedRowsAreFixed}

pub found_rows : FirstIsOne → FoundWithinBudget → FoundRowsAreFixed
found_rows law within m root infer budget seed s first _ _ few (IsFound r other) =
    let same : r ≡ s = law m root seed infer r s other first in
    (ap (λ (z : Scenario). row.Found (length z.actions) z.level) same, ap (uses_of m) same)
found_rows law within m root infer budget seed s first _ _ few (HasNone none) = absurd (none s first.few first.reads.legal)
found_rows law within m root infer budget seed s first _ _ few (IsSpent level low spent) = absurd (within m root seed budget level s first.choices first.reads few spent)

pub missed_rows : DoneWithinBudget → MissedRowsAreFixed
missed_rows done m root infer budget seed _ _ none few (IsFound r first) = absurd (none r first.few first.reads.legal)
missed_rows done m root infer budget seed _ _ none few (HasNone nothing) = (refl, refl)
missed_rows done m root infer budget seed _ _ none few (IsSpent level low spent) = absurd (done m root seed budget infer level low few spent)
