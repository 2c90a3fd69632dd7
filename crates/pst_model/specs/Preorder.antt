-- When component instances stand in preorder.
use Rattle.std.specs.Prelude.{◌≡◌, ℕ, ◌<◌, ◌≤◌, ◌↔◌, List, slice_get, Option, Some, None, length}
use Rattle.pst_model.specs.declared.model.Part.{Part}

-- one instance is another, or stands below it
pub data LiesUnder (parts : List Part) (top : ℕ) : ℕ → Type 0 where
  AtTop : LiesUnder parts top top
  Below : (n parent : ℕ) (part : Part) → slice_get parts n ≡ Some part → part.parent ≡ Some parent → LiesUnder parts top parent → LiesUnder parts top n

-- the first instance stands in none, and each other one in an earlier one
abbrev pub IsParent : ℕ → Option ℕ → Type 0
IsParent n None = n ≡ 0
IsParent n (Some parent) = parent < n

-- the instances from the top to the last are the top and those below it
pub record IsSubtree (parts : List Part) (top last : ℕ) : Type 0 where
  pub within : last < length parts
  pub exactly : (n : ℕ) → LiesUnder parts top n ↔ (top ≤ n) × (n ≤ last)

pub record IsInstanceTree (parts : List Part) : Type 0 where
  pub parents : (n : ℕ) (part : Part) → slice_get parts n ≡ Some part → IsParent n part.parent
  pub subtrees : (n : ℕ) (part : Part) → slice_get parts n ≡ Some part → IsSubtree parts n part.last
