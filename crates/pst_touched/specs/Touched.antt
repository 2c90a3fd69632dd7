-- Nodes that a choice touches.
use Rattle.std.specs.Prelude.{◌≡◌, ◌⊎◌, ℕ, ◌<◌, ◌≤◌, List, Some, slice_get}
use Rattle.pst_scen.specs.declared.tree.Node.{Node}
use Rattle.pst_scen.specs.declared.act.Act.{Act}
use Rattle.pst_scen.specs.Tree.{StandsUnder}

-- each node's parent stands before it
abbrev pub StandsEarlier : List Node → Type 0
StandsEarlier nodes = (n parent : ℕ) (node : Node) → slice_get nodes n ≡ Some node → node.parent ≡ Some parent → parent < n

-- the node of one of these actions
abbrev pub IsOfAct : List Act → ℕ → Type 0
IsOfAct fresh n = (i : ℕ) × (act : Act) × (slice_get fresh i ≡ Some act) × (act.node ≡ Some n)

-- It is one of the nodes from a number on, or of these actions, or stands above one of them.
pub record IsTouched (nodes : List Node) (from : ℕ) (fresh : List Act) (n : ℕ) : Type 0 where
  pub below : ℕ
  pub under : StandsUnder nodes n below
  pub new : (from ≤ below) ⊎ IsOfAct fresh below

-- the number is in the list
abbrev pub Has : List ℕ → ℕ → Type 0
Has list n = (i : ℕ) × (slice_get list i ≡ Some n)

-- all touched nodes below that number are in the list
abbrev pub HasTouched : List Node → ℕ → List Act → List ℕ → Type 0
HasTouched nodes from fresh list = (n : ℕ) → n < from → IsTouched nodes from fresh n → Has list n
