-- Columns of a square, and which asks a later one may meet.
use Rattle.std.specs.List.{insert}
use Rattle.std.specs.Prelude.{◌≡◌, ℕ, ◌+◌, ◌*◌, ◌<◌, ◌≤◌, List, length, get_or, Bool, true, false, Some, slice_get}
use Rattle.pst_scen.specs.declared.rows.Rows.{Rows}
use Rattle.pst_scen.specs.Rows.{row_words}
use Rattle.pst_scen.specs.Plan.{Entries}
use Rattle.pst_square.specs.Marks.{IsMarked}
use Rattle.pst_addr.specs.declared.ask.Ask.{Ask}
use Rattle.pst_addr.specs.declared.ask.Range.{Range}
use Rattle.pst_addr.specs.Places.{Meet}
use Rattle.pst_addr.specs.Ranges.{IsInsertion}

-- of each row the word of that place
pub record IsColumn (rows : Rows) (place : ℕ) (column : List ℕ) : Type 0 where
  pub many : length column ≡ rows.size
  pub each : (a : ℕ) → a < rows.size → get_or column a 0 ≡ get_or rows.words (a * row_words rows.size + place) 0

-- no later ask meets the ask of that number
abbrev pub IsMetNoMore : Entries → List Ask → ℕ → Type 0
IsMetNoMore p asks k = (j : ℕ) (ask later : Ask) → k < j → slice_get asks k ≡ Some ask → slice_get asks j ≡ Some later → Meet p later.action ask.action → ⊥

-- an ask without a mark is one that no later one meets
pub record AreMarked (p : Entries) (asks : List Ask) (marks : List Bool) : Type 0 where
  pub many : length marks ≡ length asks
  pub each : (k : ℕ) → k < length asks → get_or marks k true ≡ false → IsMetNoMore p asks k

-- so are those from a number on, and the set has the actions of these asks
pub record AreMarkedFrom (p : Entries) (asks : List Ask) (from : ℕ) (set : List ℕ) (marks : List Bool) : Type 0 where
  pub many_words : length set ≡ row_words (length p.groups)
  pub many : length marks ≡ length asks
  pub asked : (j : ℕ) (later : Ask) → from ≤ j → slice_get asks j ≡ Some later → IsMarked set later.action
  pub each : (k : ℕ) → from ≤ k → k < length asks → get_or marks k true ≡ false → IsMetNoMore p asks k

-- the range was added where it is needed
pub data IsAdded (needed : Bool) (old : List Range) (range : Range) (new : List Range) : Type 0 where
  Stands : (at : ℕ) → IsInsertion old range.low at → new ≡ insert old at range → IsAdded needed old range new
  IsLeft : needed ≡ false → new ≡ old → IsAdded needed old range new
