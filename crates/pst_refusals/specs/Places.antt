-- The places of nodes in their parents.
use Rattle.std.specs.Prelude.{◌≡◌, ℕ, ◌+◌, ◌-◌, ◌<◌, List, Option, Some, None, length, slice_get}
use Rattle.pst_scen.specs.declared.tree.Node.{Node}
use Rattle.pst_scen.specs.Tree.{branch_of}
use Rattle.pst_slots.specs.Stated.{parent_of, place_in}

-- for each node whose parent is one of the nodes, its place among those that stand directly in the parent
abbrev pub ArePlaces : List Node → List ℕ → Type 0
ArePlaces nodes places = (n parent : ℕ) → parent_of nodes n ≡ Some parent → parent < length nodes → slice_get places n ≡ place_in nodes parent n

-- how many nodes behind a parent and before the node stand directly in the parent
abbrev pub between : List Node → ℕ → ℕ → ℕ
between nodes parent n = branch_of nodes parent n - branch_of nodes parent (parent + 1)

-- the place of a node in a parent, by a table of places or else by the nodes between the two
abbrev pub place_by : List Node → Option (List ℕ) → ℕ → ℕ → Option ℕ
place_by nodes None n parent = Some (between nodes parent n)
place_by nodes (Some table) n parent = slice_get table n
