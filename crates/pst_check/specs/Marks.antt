-- Marks of the actions that have started, and of those that have ended.
use Rattle.std.specs.Prelude.{◌≡◌, ◌≢◌, ◌<◌, ◌↔◌, ℕ, List, Bool, true, false, length, get_or}
use Rattle.pst_scen.specs.declared.event.Event.{Event}
use Rattle.pst_scen.specs.Trace.{Started, Ended}

-- each mark tells whether the action of its number has started, or has ended
pub record AreMarks (past : List Event) (started ended : List Bool) : Type 0 where
  pub started_is : (a : ℕ) → a < length started → (get_or started a false ≡ true) ↔ Started past a
  pub ended_is : (a : ℕ) → a < length ended → (get_or ended a false ≡ true) ↔ Ended past a

-- the mark of the number, where there is one, is set, and the others are as before
pub record IsMarked (a : ℕ) (old new : List Bool) : Type 0 where
  pub many : length new ≡ length old
  pub here : a < length old → get_or new a false ≡ true
  pub others : (b : ℕ) → b ≢ a → get_or new b false ≡ get_or old b false

-- no mark is set
abbrev pub AreUnset : List Bool → Type 0
AreUnset marks = (a : ℕ) → get_or marks a false ≡ false
