-- The table of a sweep.
use Rattle.std.specs.Prelude.{◌≡◌, ℕ, ◌+◌, ◌≤◌, List, length, Some, slice_get}
use Rattle.pst_model.specs.ModelTree.{ModelTree}
use Rattle.pst_scen.specs.declared.scenario.Scenario.{Scenario}
use Rattle.pst_legal.specs.Legal.{Legal}
use Rattle.pst_legal.specs.First.{IsFirst, Spent}
use Rattle.pst_sweep_table.specs.declared.row.Outcome.{Outcome}
use Rattle.pst_sweep_table.specs.declared.row.Outcome.TheVariants.{Found, NoScenario, Budget}
use Rattle.pst_sweep_table.specs.declared.row.SweepRow.{SweepRow}
use Rattle.pst_sweep_table.specs.Counts.{uses_of, no_uses}

-- What the search of a seed may come to, and the uses: the first legal scenario; or no scenario with so few inferred actions
-- is legal; or the budget is spent in a level that may be searched.
pub data MayCome (m : ModelTree) (root infer budget seed : ℕ) : Outcome → List ℕ → Type 0 where
  IsFound : (s : Scenario) → IsFirst m root seed infer s → MayCome m root infer budget seed (Found (length s.actions) s.level) (uses_of m s)
  HasNone : ((s : Scenario) → s.level ≤ infer → Legal m root s → ⊥) → MayCome m root infer budget seed NoScenario (no_uses m)
  IsSpent : (level : ℕ) → level ≤ infer → Spent m root seed level budget → MayCome m root infer budget seed (Budget level) (no_uses m)

pub record IsRow (m : ModelTree) (root infer budget seed : ℕ) (row : SweepRow) : Type 0 where
  pub seed_is : row.seed ≡ seed
  pub comes : MayCome m root infer budget seed row.outcome row.uses

-- a row for each of so many seeds from the first on, in the order of the seeds
pub record IsTable (m : ModelTree) (root infer budget first count : ℕ) (rows : List SweepRow) : Type 0 where
  pub many : length rows ≡ count
  pub each : (k : ℕ) (row : SweepRow) → slice_get rows k ≡ Some row → IsRow m root infer budget (first + k) row
