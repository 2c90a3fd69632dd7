-- Tables by which the serial order is made.
use Rattle.std.specs.Prelude.{◌≡◌, ℕ, ◌/◌, ◌<◌, ◌≤◌, List, length, get_or, Bool, true, false}
use Rattle.pst_scen.specs.Rows.{Has, row_words}
use Rattle.pst_scen.specs.Plan.{Entries}
use Rattle.pst_book.specs.Tables.{AreSoManyOf}

-- b must come before a, and isn't taken
abbrev pub IsOwed : Entries → List Bool → ℕ → ℕ → Type 0
IsOwed p taken a b = (b < length p.groups) × Has p.must b a × (get_or taken b false ≡ false)

-- how many of these there are for each action
pub record AreOwed (p : Entries) (awaited : List ℕ) (taken : List Bool) : Type 0 where
  pub many_awaited : length awaited ≡ length p.groups
  pub many_taken : length taken ≡ length p.groups
  pub each : (a : ℕ) → a < length p.groups → AreSoManyOf (IsOwed p taken a) (get_or awaited a 0)

-- the number of a group that isn't taken, whose first member waits for nothing
pub record CanBeTaken (p : Entries) (awaited : List ℕ) (taken : List Bool) (group : ℕ) : Type 0 where
  pub number : get_or p.groups group 0 ≡ group
  pub fresh : get_or taken group false ≡ false
  pub ready : get_or awaited group 0 ≡ 0

-- the least of these numbers, or the number of actions where there is none
pub record IsFirst (p : Entries) (awaited : List ℕ) (taken : List Bool) (group : ℕ) : Type 0 where
  pub inside : group ≤ length p.groups
  pub can : group < length p.groups → CanBeTaken p awaited taken group
  pub least : (other : ℕ) → other < group → CanBeTaken p awaited taken other → ⊥

-- the least of these numbers from a bound on
pub record IsFirstFrom (p : Entries) (awaited : List ℕ) (taken : List Bool) (bound group : ℕ) : Type 0 where
  pub inside : group < length p.groups
  pub can : CanBeTaken p awaited taken group
  pub least : (other : ℕ) → bound ≤ other → other < group → CanBeTaken p awaited taken other → ⊥

-- the block of 64 actions in which such a number lies is marked
pub record AreHinted (p : Entries) (awaited : List ℕ) (taken hints : List Bool) : Type 0 where
  pub many : length hints ≡ row_words (length p.groups)
  pub marked : (group : ℕ) → group < length p.groups → CanBeTaken p awaited taken group → get_or hints (group / 64) false ≡ true

-- the members of the group are taken, and the others as before
pub record IsTaken (p : Entries) (group : ℕ) (old new : List Bool) : Type 0 where
  pub members : (a : ℕ) → a < length p.groups → get_or p.groups a 0 ≡ group → get_or new a false ≡ true
  pub others : (a : ℕ) → (get_or p.groups a 0 ≡ group → ⊥) → get_or new a false ≡ get_or old a false
