-- Nodes of trees over the bits of keys.
use Rattle.std.specs.Prelude.{◌≡◌, ℕ, zero, suc, ◌<◌, ◌/◌, ◌%◌, nat_eq, List, slice_get, Option, Some, None, if◌then◌else◌}
use Rattle.std.specs.Option.{option_and_then}
use Rattle.pst_members.specs.declared.node.Node.{Node}
use Rattle.pst_members.specs.declared.node.Node.TheVariants.{Empty, Leaf, Branch}

-- what a key finds at a node, where it is told what is found below
abbrev pub at_node : (ℕ → ℕ → Option ℕ) → ℕ → Node → Option ℕ
at_node below key Empty = None
at_node below key (Leaf rest value) = if nat_eq key rest then Some value else None
at_node below key (Branch even odd) = below (if nat_eq (key % 2) 0 then even else odd) (key / 2)

-- what a key finds from a node on, within so many nodes
abbrev pub found_within : ℕ → List Node → ℕ → ℕ → Option ℕ
found_within zero nodes at key = None
found_within (suc k) nodes at key = option_and_then (at_node (found_within k nodes) key) (slice_get nodes at)

-- what a key finds from a node on, below which stand earlier nodes alone
abbrev pub found_from : List Node → ℕ → ℕ → Option ℕ
found_from nodes at key = found_within (suc at) nodes at key

-- below each node stand earlier ones alone, and the first one is empty
pub record AreNodes (nodes : List Node) : Type 0 where
  pub earlier : (at even odd : ℕ) → slice_get nodes at ≡ Some (Branch even odd) → (even < at) × (odd < at)
  pub empty : slice_get nodes 0 ≡ Some Empty
