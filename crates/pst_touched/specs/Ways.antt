-- The ways up from nodes.
use Rattle.std.specs.Prelude.{◌≡◌, ℕ, ◌<◌, ◌≤◌, List, Some, slice_get}
use Rattle.pst_scen.specs.declared.tree.Node.{Node}
use Rattle.pst_scen.specs.declared.act.Act.{Act}
use Rattle.pst_scen.specs.Tree.{StandsUnder}
use Rattle.pst_touched.specs.Touched.{StandsEarlier, Has}

-- the numbers that were there are there
abbrev pub Keeps : List ℕ → List ℕ → Type 0
Keeps old new = (n : ℕ) → Has old n → Has new n

-- the node, and all nodes above it, are in the list
abbrev pub HasWay : List Node → List ℕ → ℕ → Type 0
HasWay nodes list n = StandsEarlier nodes → (top : ℕ) → StandsUnder nodes top n → Has list top

-- so are those below a number that the node is or stands below
abbrev pub HasOld : List Node → ℕ → List ℕ → ℕ → Type 0
HasOld nodes from list n = StandsEarlier nodes → (top : ℕ) → top < from → StandsUnder nodes top n → Has list top

-- and of all nodes from that number on, and before another one
abbrev pub HasOlds : List Node → ℕ → List ℕ → ℕ → Type 0
HasOlds nodes from list end = (n : ℕ) → from ≤ n → n < end → HasOld nodes from list n

-- and of the node of an action, where that is below the number
abbrev pub HasWayOf : List Node → ℕ → List ℕ → Act → Type 0
HasWayOf nodes from list act = (n : ℕ) → act.node ≡ Some n → n < from → HasWay nodes list n

-- and of so many actions
abbrev pub HasWaysOf : List Node → ℕ → List ℕ → List Act → ℕ → Type 0
HasWaysOf nodes from list fresh end = (i : ℕ) (act : Act) → i < end → slice_get fresh i ≡ Some act → HasWayOf nodes from list act
