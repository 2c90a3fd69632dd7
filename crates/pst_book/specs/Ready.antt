-- Marks of blocks of 64 actions, by which a book finds what may start.
use Rattle.std.specs.Prelude.{◌≡◌, ℕ, ◌/◌, ◌<◌, ◌≤◌, List, length, get_or, Bool, true, false}
use Rattle.pst_scen.specs.declared.event.Event.{Event}
use Rattle.pst_scen.specs.Rows.{row_words}
use Rattle.pst_scen.specs.Plan.{Entries}
use Rattle.pst_book.specs.Books.{MayJoin, AllMayJoin, CanStart}

-- the members of the group of that number may join
pub record IsReadyGroup (p : Entries) (trace : List Event) (group : ℕ) : Type 0 where
  pub number : get_or p.groups group 0 ≡ group
  pub join : AllMayJoin p trace group

-- the block of each ready group's number is marked
pub record AreReady (p : Entries) (trace : List Event) (marks : List Bool) : Type 0 where
  pub many : length marks ≡ row_words (length p.groups)
  pub marked : (group : ℕ) → group < length p.groups → IsReadyGroup p trace group → get_or marks (group / 64) false ≡ true

-- of each action with the property that may join the block of its group's number is marked, and what was marked still is
pub record AreMarked (p : Entries) (trace : List Event) (P : ℕ → Type 0) (old new : List Bool) : Type 0 where
  pub many : length new ≡ length old
  pub kept : (block : ℕ) → get_or old block false ≡ true → get_or new block false ≡ true
  pub marked : (a : ℕ) → P a → MayJoin p trace a → get_or new (get_or p.groups a 0 / 64) false ≡ true

-- the least group in a range of numbers that can start
pub record StartsIn (p : Entries) (lanes : ℕ) (trace : List Event) (first end group : ℕ) : Type 0 where
  pub inside : (first ≤ group) × (group < end)
  pub can : CanStart p lanes trace group
  pub least : (other : ℕ) → first ≤ other → other < group → CanStart p lanes trace other → ⊥

abbrev pub NoneIn : Entries → ℕ → List Event → ℕ → ℕ → Type 0
NoneIn p lanes trace first end = (group : ℕ) → first ≤ group → group < end → CanStart p lanes trace group → ⊥
