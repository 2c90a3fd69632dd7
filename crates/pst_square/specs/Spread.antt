-- Pairs with one member of a group, spread to all its members.
use Rattle.std.specs.Prelude.{◌≡◌, ◌≢◌, ◌⊎◌, ◌<◌, ℕ, List, get_or}
use Rattle.pst_scen.specs.declared.rows.Rows.{Rows}
use Rattle.pst_scen.specs.Rows.{Has}

-- it isn't the one after which its group is numbered
pub record IsFollower (groups : List ℕ) (b : ℕ) : Type 0 where
  pub different : get_or groups b 0 ≢ b

-- the first action has the pair with an action of the second's group
pub record IsSpread (rows : Rows) (groups : List ℕ) (a b : ℕ) : Type 0 where
  pub x : ℕ
  pub x_in : x < rows.size
  pub same : get_or groups x 0 ≡ get_or groups b 0
  pub has : Has rows a x

-- The new square has the pairs of the old one, and others in one row alone, each with an action of a group of which the
-- row had a member.
pub record IsSpreading (old new : Rows) (groups : List ℕ) (a : ℕ) : Type 0 where
  pub sized : new.size ≡ old.size
  pub kept : (c d : ℕ) → c < old.size → d < old.size → Has old c d → Has new c d
  pub sound : (c d : ℕ) → c < old.size → d < old.size → Has new c d → Has old c d ⊎ ((c ≡ a) × IsSpread old groups a d)

-- where the row had the pair with an action, it has that with the one after which its group is numbered
abbrev pub IsGathered : Rows → Rows → List ℕ → ℕ → ℕ → Type 0
IsGathered old new groups a b = Has old a b → Has new a (get_or groups b 0)

-- where the row had the pair with the one after which the action's group is numbered, it has that with the action
abbrev pub IsShared : Rows → Rows → List ℕ → ℕ → ℕ → Type 0
IsShared old new groups a b = Has old a (get_or groups b 0) → Has new a b

-- each group is numbered after a member, which has its own number
pub record AreOwn (groups : List ℕ) (size : ℕ) : Type 0 where
  pub inside : (b : ℕ) → b < size → get_or groups b 0 < size
  pub own : (b : ℕ) → b < size → get_or groups (get_or groups b 0) 0 ≡ get_or groups b 0
