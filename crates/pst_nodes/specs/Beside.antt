-- Actions that stand in other branches of parallel blocks.
use Rattle.std.specs.Prelude.{◌<◌, ◌≤◌, ℕ, List}
use Rattle.pst_scen.specs.declared.rows.Rows.{Rows}
use Rattle.pst_scen.specs.declared.tree.Node.{Node}
use Rattle.pst_scen.specs.Rows.{Has}
use Rattle.pst_nodes.specs.Over.{Over, IsLeafOf, IsBranchBeside}

-- the node is a branch of a parallel block, and the action's leaf stands in another branch of it
pub record IsBesideAt (nodes : List Node) (n act : ℕ) : Type 0 where
  pub other : ℕ
  pub of_act : IsLeafOf nodes act other
  pub beside : IsBranchBeside nodes other n

-- the same for something over the first action's leaf
pub record AreBeside (nodes : List Node) (a b : ℕ) : Type 0 where
  pub leaf : ℕ
  pub of_act : IsLeafOf nodes a leaf
  pub over : Over nodes (λ n. IsBesideAt nodes n b) leaf

-- each pair of the row with a number of that kind has both numbers from the bound on
abbrev pub BoundsRow : Rows → ℕ → ℕ → (ℕ → Type 0) → Type 0
BoundsRow rows a bound P = (b : ℕ) → b < rows.size → Has rows a b → P b → (bound ≤ a) × (bound ≤ b)
