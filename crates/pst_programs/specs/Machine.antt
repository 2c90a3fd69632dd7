-- The machine: for each lane a place in its program, the signals that were given, and the trace.
use Rattle.std.specs.Prelude.{◌≡◌, ℕ, zero, suc, ◌<◌, List, [], ◌∷◌, ◌++◌, length, get_or, replicate, slice_get, Some, Contains}
use Rattle.pst_scen.specs.declared.event.Event.{Event}
use Rattle.pst_scen.specs.declared.event.Event.TheVariants as event
use Rattle.pst_scen.specs.Trace.{Started, Runs, starts_of}
use Rattle.pst_scen.specs.Plan.{Entries, members}
use Rattle.pst_programs.specs.declared.program.Instruction.{Instruction}
use Rattle.pst_programs.specs.declared.program.Instruction.TheVariants.{Run, Signal, Await}
use Rattle.pst_programs.specs.declared.program.Program.{Program}
use Rattle.pst_programs.specs.declared.program.Move.{Move}
use Rattle.pst_programs.specs.declared.program.Move.TheVariants as move
use Rattle.pst_programs.specs.Serial.{group_of}
use Rattle.pst_programs.specs.Programs.{program_at}

pub record State : Type 0 where
  pub places : List ℕ
  pub signals : List ℕ
  pub trace : List Event

-- every lane stands at its beginning
abbrev pub at_first : List Program → State
at_first programs = record { places = replicate (length programs) 0; signals = []; trace = [] }

-- one lane goes on by one
abbrev pub moved_on : List ℕ → ℕ → List ℕ
moved_on [] lane = []
moved_on (place ∷ places) zero = suc place ∷ places
moved_on (place ∷ places) (suc lane) = place ∷ moved_on places lane

-- the lane stands at that instruction
abbrev pub IsAt : List Program → List ℕ → ℕ → Instruction → Type 0
IsAt programs places lane instruction = slice_get (program_at programs lane) (get_or places lane 0) ≡ Some instruction

-- one lane for each member stands at its `Run`
abbrev pub AreAt : List Program → List ℕ → List ℕ → List ℕ → Type 0
AreAt programs places [] [] = Unit {0}
AreAt programs places [] (lane ∷ lanes) = ⊥
AreAt programs places (a ∷ more) [] = ⊥
AreAt programs places (a ∷ more) (lane ∷ lanes) = IsAt programs places lane (Run a) × AreAt programs places more lanes

-- what a move makes of a state
pub data Steps (p : Entries) (programs : List Program) (old : State) : Move → State → Type 0 where
  -- a lane at a `Signal` adds the action to the signals, and goes on
  Tells : (lane a : ℕ) → IsAt programs old.places lane (Signal a)
      → Steps p programs old (move.Pass lane) (record { places = moved_on old.places lane; signals = old.signals ++ a ∷ []; trace = old.trace })
  -- a lane at an `Await` goes on where the action is among them
  Hears : (lane a : ℕ) → IsAt programs old.places lane (Await a) → Contains old.signals a
      → Steps p programs old (move.Pass lane) (record { places = moved_on old.places lane; signals = old.signals; trace = old.trace })
  -- a whole group starts in one block where each member's lane stands at its `Run` and no member has started
  Begins : (lane a : ℕ) (used : List ℕ) → IsAt programs old.places lane (Run a) → AreAt programs old.places (members p.groups (group_of p a)) used
      → ((b : ℕ) → Contains (members p.groups (group_of p a)) b → Started old.trace b → ⊥)
      → Steps p programs old (move.Begin lane) (record { places = old.places; signals = old.signals; trace = old.trace ++ starts_of (members p.groups (group_of p a)) used })
  -- a running action ends, and its lane goes on
  Ends : (lane a : ℕ) → IsAt programs old.places lane (Run a) → Runs old.trace a
      → Steps p programs old (move.End lane) (record { places = moved_on old.places lane; signals = old.signals; trace = old.trace ++ event.End a ∷ [] })

-- what moves, one after another, make of the first state; the latest stands first
pub data Reaches (p : Entries) (programs : List Program) : List Move → State → Type 0 where
  First : Reaches p programs [] (at_first programs)
  Then : (moves : List Move) (move : Move) (old new : State) → Reaches p programs moves old → Steps p programs old move new → Reaches p programs (move ∷ moves) new

-- the lane isn't at its program's end
abbrev pub IsOnItsWay : List Program → State → ℕ → Type 0
IsOnItsWay programs state lane = get_or state.places lane 0 < length (program_at programs lane)

-- every lane is
abbrev pub HasEnded : List Program → State → Type 0
HasEnded programs state = (lane : ℕ) → IsOnItsWay programs state lane → ⊥
