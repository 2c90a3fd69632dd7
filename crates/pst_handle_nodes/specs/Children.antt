-- Where the children of a node stand.
use Rattle.std.specs.Prelude.{◌≡◌, ℕ, ◌+◌, ◌<◌, List, [], ◌∷◌, map, Bool, true, ◌&&◌, nat_lt, Option, Some, None, slice_get}
use Rattle.std.specs.List.{enumerate_from, filter}
use Rattle.pst_scen.specs.declared.tree.Node.{Node}
use Rattle.pst_scen.specs.Tree.{is_parent}

-- the children of a node among those that are numbered from there on
abbrev pub children_from : ℕ → ℕ → List Node → List ℕ
children_from parent number nodes = map (λ e. e.0) (filter (λ e. is_parent parent e.1.parent) (enumerate_from number nodes))

-- the parent has a lower number, where there is one
abbrev pub names_lower : ℕ → Option ℕ → Bool
names_lower number None = true
names_lower number (Some parent) = nat_lt parent number

-- each of these nodes, which are numbered from there on, stands behind its parent
abbrev pub are_behind : ℕ → List Node → Bool
are_behind number [] = true
are_behind number (node ∷ more) = names_lower number node.parent && are_behind (number + 1) more

-- each node's parent stands before it
abbrev pub StandEarlier : List Node → Type 0
StandEarlier nodes = (n parent : ℕ) (node : Node) → slice_get nodes n ≡ Some node → node.parent ≡ Some parent → parent < n
