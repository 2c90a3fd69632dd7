-- Counting the nodes by their parents, from the first on.
use Rattle.std.specs.Prelude.{◌≡◌, ℕ, ◌<◌, List, Some, length, get_or}
use Rattle.pst_scen.specs.declared.tree.Node.{Node}
use Rattle.pst_scen.specs.Tree.{branch_of}
use Rattle.pst_slots.specs.Stated.{parent_of, place_in}

-- for each node how many of the first n nodes stand directly in it
pub record AreCounted (nodes : List Node) (n : ℕ) (counts : List ℕ) : Type 0 where
  pub many : length counts ≡ length nodes
  pub each : (parent : ℕ) → parent < length nodes → get_or counts parent 0 ≡ branch_of nodes parent n

-- the node's place in its parent, where that is one of the nodes
abbrev pub IsPlace : List Node → ℕ → ℕ → Type 0
IsPlace nodes n place = (parent : ℕ) → parent_of nodes n ≡ Some parent → parent < length nodes → place_in nodes parent n ≡ Some place
