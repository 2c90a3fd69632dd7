-- Which rule a block of a foreign trace breaks. Rules 1 and 10 are about the header and the last line of a trace's text.
-- The numbers of the rules are this project's own.
use Rattle.std.specs.Prelude.{◌≡◌, ◌≢◌, ℕ, ◌<◌, ◌≤◌, List, length, get_or, Contains}
use Rattle.pst_scen.specs.declared.act.Link.{Link}
use Rattle.pst_scen.specs.declared.scenario.Scenario.{Scenario}
use Rattle.pst_scen.specs.declared.event.Event.{Event}
use Rattle.pst_scen.specs.Flows.{Feeds, Reads, Writes}
use Rattle.pst_scen.specs.Order.{Before}
use Rattle.pst_scen.specs.Conflicts.{Conflict}
use Rattle.pst_scen.specs.Trace.{Started, Ended, Runs, IsHeld, IsWholeGroup, Names, last_writer, Block, Starts, Ends, events}

-- A block, behind a trace, breaks the rule of that number.
pub data Breaks (s : Scenario) (trace : List Event) : ℕ → Block → Type 0 where
  -- the starts aren't those of one whole group, ascending
  NoGroup : (members used : List ℕ) → (IsWholeGroup s members → ⊥) → Breaks s trace 2 (Starts members used)
  -- an action has started before
  StartsAgain : (members used : List ℕ) (a : ℕ) → Contains members a → Started trace a → Breaks s trace 3 (Starts members used)
  -- a lane is busy
  LaneIsBusy : (members used : List ℕ) (lane : ℕ) → Contains used lane → IsHeld trace lane → Breaks s trace 4 (Starts members used)
  -- a lane is named twice
  LaneIsNamedTwice : (members used : List ℕ) (i j : ℕ) → i < j → j < length used → get_or used i 0 ≡ get_or used j 0 → Breaks s trace 4 (Starts members used)
  -- an action of an earlier statement, which isn't released, hasn't ended
  StatementIsOpen : (members used : List ℕ) (a b : ℕ) → Contains members b → Before s a b → (Ended trace a → ⊥) → Breaks s trace 5 (Starts members used)
  -- the producer of a consumed buffer hasn't ended
  ProducerIsOpen : (members used : List ℕ) (a b : ℕ) → Contains members b → Feeds s a b → (Ended trace a → ⊥) → Breaks s trace 6 (Starts members used)
  -- the last writer of a state pool that ended isn't the source of an input
  SourceIsAnother : (members used : List ℕ) (b pool : ℕ) (link : Link)
      → Contains members b → Reads s b pool link → (Names link (last_writer s pool trace) → ⊥) → Breaks s trace 7 (Starts members used)
  -- nor the previous writer of an output
  PreviousIsAnother : (members used : List ℕ) (b pool : ℕ) (link : Link)
      → Contains members b → Writes s b pool link → (Names link (last_writer s pool trace) → ⊥) → Breaks s trace 7 (Starts members used)
  -- an action conflicts with a running one
  ConflictsRunning : (members used : List ℕ) (a b : ℕ) → Runs trace a → Contains members b → Conflict s a b → Breaks s trace 8 (Starts members used)
  -- or with another of the block
  ConflictsInside : (members used : List ℕ) (a b : ℕ) → Contains members a → Contains members b → Conflict s a b → Breaks s trace 8 (Starts members used)
  -- an end is of an action that doesn't run
  EndsNothing : (a : ℕ) → (Runs trace a → ⊥) → Breaks s trace 9 (Ends a)
  -- another action, one that reads the object that an action of the block replaces, hasn't ended
  ReaderIsOpen : (members used : List ℕ) (a b pool : ℕ) (link : Link)
      → Contains members b → Writes s b pool link → Reads s a pool link → a ≢ b → (Ended trace a → ⊥) → Breaks s trace 11 (Starts members used)

-- the least rule that the block breaks
pub record BreaksLeast (s : Scenario) (trace : List Event) (rule : ℕ) (block : Block) : Type 0 where
  pub breaks : Breaks s trace rule block
  pub least : (other : ℕ) → Breaks s trace other block → rule ≤ other

-- a lane for each of at least one member
abbrev pub IsBlock : Block → Type 0
IsBlock (Starts members used) = (0 < length members) × (length used ≡ length members)
IsBlock (Ends a) = Unit {0}

-- The events are whole blocks.
pub record AreWholeBlocks (trace : List Event) : Type 0 where
  pub blocks : List Block
  pub are : events blocks ≡ trace
  pub whole : (block : Block) → Contains blocks block → IsBlock block
