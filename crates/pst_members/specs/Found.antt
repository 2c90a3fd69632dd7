-- What versions find.
use Rattle.std.specs.Prelude.{◌≡◌, ℕ, ◌<◌, ◌≤◌, ◌/◌, ◌%◌, nat_eq, length, Option, Some, None, if◌then◌else◌}
use Rattle.pst_members.specs.declared.node.Node.{Node}
use Rattle.pst_members.specs.declared.node.Node.TheVariants.{Empty, Leaf, Branch}
use Rattle.pst_members.specs.declared.versions.Versions.{Versions}
use Rattle.pst_members.specs.Nodes.{at_node, found_from}

-- what a version finds by a key
unfoldable pub found : Versions → ℕ → ℕ → Option ℕ
found versions version key = found_from versions.nodes.items version key

-- how many versions there may be
abbrev pub count : Versions → ℕ
count versions = length versions.nodes.items

-- each version that there was finds what it found
pub record Keeps (old new : Versions) : Type 0 where
  pub more : count old ≤ count new
  pub same : (version key : ℕ) → version < count old → found new version key ≡ found old version key

-- a version is there, and finds what that one found, but that value by that key
pub record IsWith (old : Versions) (version key value : ℕ) (new : Versions) (added : ℕ) : Type 0 where
  pub there : added < count new
  pub finds : (q : ℕ) → found new added q ≡ (if nat_eq q key then Some value else found old version q)

-- ---- nodes

-- a node is there, and below it stand earlier ones
abbrev pub StandsBelow : ℕ → ℕ → Node → Type 0
StandsBelow at count Empty = Unit
StandsBelow at count (Leaf key value) = Unit
StandsBelow at count (Branch even odd) = (even < at) × (odd < at) × (at ≤ count)

-- a node was added
pub record IsStored (old : Versions) (node : Node) (new : Versions) (added : ℕ) : Type 0 where
  pub there : added < count new
  pub finds : (q : ℕ) → found new added q ≡ at_node (found old) q node

-- a branch was added, with a node on the side of a key and another beside it
pub record IsBranch (old : Versions) (key below beside : ℕ) (new : Versions) (added : ℕ) : Type 0 where
  pub there : added < count new
  pub finds : (q : ℕ) → found new added q ≡ found old (if nat_eq (q % 2) (key % 2) then below else beside) (q / 2)

-- two keys lead to a node
pub record IsParted (key value other kept : ℕ) (new : Versions) (added : ℕ) : Type 0 where
  pub there : added < count new
  pub finds : (q : ℕ) → found new added q ≡ (if nat_eq q key then Some value else (if nat_eq q other then Some kept else None))
