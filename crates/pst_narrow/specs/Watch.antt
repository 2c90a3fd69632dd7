-- From constraints to their variables, and from variables to the constraints in which they stand.
use Rattle.std.specs.Prelude.{◌≡◌, ℕ, ◌<◌, ◌⊎◌, List, length, Some, Contains, slice_get}
use Rattle.std.specs.Global.{Vec}
use Rattle.pst_expr.specs.Tree.{Expression}
use Rattle.pst_narrow.specs.declared.watch.Watch.{Watch}
use Rattle.pst_narrow.specs.Mentions.{Mentions}

abbrev pub Rows : Type 0
Rows = List (Vec ℕ)

-- the numbers of a row
abbrev pub IsRow : Rows → ℕ → List ℕ → Type 0
IsRow rows a numbers = (row : Vec ℕ) × (slice_get rows a ≡ Some row) × (row.items ≡ numbers)

-- a row has a number
abbrev pub Has : Rows → ℕ → ℕ → Type 0
Has rows a b = (row : Vec ℕ) × (slice_get rows a ≡ Some row) × Contains row.items b

-- numbers were added to rows, and no others
pub record AreAdded (Added : ℕ → ℕ → Type 0) (old new : Rows) : Type 0 where
  pub long : length new ≡ length old
  pub kept : (a b : ℕ) → Has old a b → Has new a b
  pub added : (a b : ℕ) → Added a b → Has new a b
  pub only : (a b : ℕ) → Has new a b → Has old a b ⊎ Added a b

-- a constraint, by its number
abbrev pub IsNumbered : List Expression → ℕ → Expression → Type 0
IsNumbered constraints c e = slice_get constraints c ≡ Some e

-- the rows of the first n constraints, and in the rows of variables the numbers of those in which they stand
pub record AreWatched (constraints : List Expression) (n variables : ℕ) (mentioned watching : Rows) : Type 0 where
  pub lists : length mentioned ≡ n
  pub rows : length watching ≡ variables
  pub mentions : (c v : ℕ) (e : Expression) → c < n → IsNumbered constraints c e → Mentions e v → Has mentioned c v
  pub watched : (c v : ℕ) (e : Expression) → c < n → IsNumbered constraints c e → Mentions e v → Has watching v c
  pub numbers : (v c : ℕ) → Has watching v c → c < n
  pub small : (c v : ℕ) → Has mentioned c v → v < variables

-- so it is for all constraints
abbrev pub IsWatch : List Expression → ℕ → Watch → Type 0
IsWatch constraints variables w = AreWatched constraints (length constraints) variables w.mentioned.items w.watching.items
