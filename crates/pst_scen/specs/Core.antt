-- The core: what the two commands of a run make of a trace.
-- That the least group starts, on the least lanes, is this project's own.
use Rattle.std.specs.Prelude.{ℕ, ◌<◌, ◌≤◌, List, [], ◌∷◌, ◌++◌, length, get_or, Contains, true, false}
use Rattle.pst_scen.specs.declared.scenario.Scenario.{Scenario}
use Rattle.pst_scen.specs.declared.event.Event.{Event}
use Rattle.pst_scen.specs.declared.event.Event.TheVariants.{Start, End}
use Rattle.pst_scen.specs.Order.{Must}
use Rattle.pst_scen.specs.Conflicts.{Conflict}
use Rattle.pst_scen.specs.Trace.{Started, Ended, Runs, IsHeld, IsWholeGroup, AreFree, starts_of}

-- None of the group has started, every action that must come before a member has ended, and no
-- member conflicts with a running action.
pub record IsReady (s : Scenario) (trace : List Event) (members : List ℕ) : Type 0 where
  pub group : IsWholeGroup s members
  pub fresh : (a : ℕ) → Contains members a → Started trace a → ⊥
  pub awaited : (a b : ℕ) → Contains members b → Must s a b → Ended trace a
  pub clear : (a b : ℕ) → Runs trace a → Contains members b → Conflict s a b → ⊥

-- The group is ready, and as many lanes are idle as it has members.
pub record IsStartable (s : Scenario) (lanes : ℕ) (trace : List Event) (members : List ℕ) : Type 0 where
  pub ready : IsReady s trace members
  pub used : List ℕ
  pub free : AreFree lanes trace members used

-- The least startable group, on the least idle lanes.
pub record Opens (s : Scenario) (lanes : ℕ) (trace : List Event) (members used : List ℕ) : Type 0 where
  pub ready : IsReady s trace members
  pub free : AreFree lanes trace members used
  pub least : (others : List ℕ) → IsStartable s lanes trace others → get_or members 0 0 ≤ get_or others 0 0
  pub ascending : (i j : ℕ) → i < j → j < length used → get_or used i 0 < get_or used j 0
  pub least_lanes : (l m : ℕ) → l < m → Contains used m → (IsHeld trace l → ⊥) → Contains used l

pub data Command : Type 0 where
  -- start a group
  Open : Command
  -- end the action
  Close : (a : ℕ) → Command

-- what a command makes of a trace
pub data Step (s : Scenario) (lanes : ℕ) (trace : List Event) : Command → List Event → Type 0 where
  Opened : (members used : List ℕ) → Opens s lanes trace members used → Step s lanes trace Open (trace ++ starts_of members used)
  Shut : ((members : List ℕ) → IsStartable s lanes trace members → ⊥) → Step s lanes trace Open trace
  Closed : (a : ℕ) → Runs trace a → Step s lanes trace (Close a) (trace ++ End a ∷ [])
  Idle : (a : ℕ) → (Runs trace a → ⊥) → Step s lanes trace (Close a) trace

-- what commands, one after another, make of a trace
pub data Makes (s : Scenario) (lanes : ℕ) : List Event → List Command → List Event → Type 0 where
  Done : (trace : List Event) → Makes s lanes trace [] trace
  Then : (before middle after : List Event) (command : Command) (more : List Command) → Step s lanes before command middle → Makes s lanes middle more after → Makes s lanes before (command ∷ more) after

-- what commands make of the empty trace
abbrev pub Core : Scenario → ℕ → List Command → List Event → Type 0
Core s lanes commands trace = Makes s lanes [] commands trace

-- the commands of a trace: one for each block of starts, and one for each end
abbrev pub commands_of : List Event → List Command
commands_of [] = []
commands_of (Start a lane true ∷ more) = commands_of more
commands_of (Start a lane false ∷ more) = Open ∷ commands_of more
commands_of (End a ∷ more) = Close a ∷ commands_of more
