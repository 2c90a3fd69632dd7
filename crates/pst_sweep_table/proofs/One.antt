-- A seed has one row.
use Rattle.std.proofs.Common.{length, refl, ap, inl, inr}
use Rattle.pst_scen.specs.declared.scenario.Scenario.{Scenario}
use Rattle.pst_legal.specs.Laws.{FirstIsOne}
use Rattle.pst_sweep_table.specs.declared.row.Outcome.TheVariants.{Found}
use Rattle.pst_sweep_table.specs.Counts.{uses_of}
use Rattle.pst_sweep_table.specs.Rows.{IsFound, HasNone, IsSpent}
use Rattle.pst_sweep_table.specs.Laws.{RowsAreOne}

pub one_row : FirstIsOne → RowsAreOne
one_row law m root infer budget seed _ _ _ _ (IsFound s f) (IsFound t g) =
    let e = law m root seed infer s t f g in inl (ap (λ (x : Scenario). Found (length x.actions) x.level) e, ap (uses_of m) e)
one_row law m root infer budget seed _ _ _ _ (IsFound s f) (HasNone n) = absurd (n s f.few f.reads.legal)
one_row law m root infer budget seed _ _ _ _ (IsFound s f) (IsSpent level few spent) = inr (inr tt)
one_row law m root infer budget seed _ _ _ _ (HasNone n) (IsFound t g) = absurd (n t g.few g.reads.legal)
one_row law m root infer budget seed _ _ _ _ (HasNone n) (HasNone o) = inl (refl, refl)
one_row law m root infer budget seed _ _ _ _ (HasNone n) (IsSpent level few spent) = inr (inr tt)
one_row law m root infer budget seed _ _ _ _ (IsSpent level few spent) _ = inr (inl tt)
