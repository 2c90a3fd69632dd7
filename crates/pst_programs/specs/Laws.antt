-- The laws of static programs.
use Rattle.std.specs.Prelude.{◌≡◌, ◌≤◌, ◌<◌, ℕ, ◌+◌, List, length, sum_by, Contains}
use Rattle.pst_scen.specs.declared.scenario.Scenario.{Scenario}
use Rattle.pst_scen.specs.Trace.{IsWhole, Prefix}
use Rattle.pst_scen.specs.Plan.{Entries, widest}
use Rattle.pst_scen.specs.Plans.{IsPlanOf}
use Rattle.pst_order.specs.Facts.{LinksStates}
use Rattle.pst_programs.specs.declared.program.Instruction.TheVariants.{Run}
use Rattle.pst_programs.specs.declared.program.Program.{Program}
use Rattle.pst_programs.specs.declared.program.Move.{Move}
use Rattle.pst_programs.specs.Serial.{group_of, IsOpen}
use Rattle.pst_programs.specs.Programs.{ArePrograms}
use Rattle.pst_programs.specs.Machine.{State, Steps, Reaches, IsOnItsWay, HasEnded}
use Rattle.pst_programs.specs.Safe.{Stands, AreSafe}

-- how many instructions the programs have
abbrev pub instructions : List Program → ℕ
instructions programs = sum_by (λ program. length program.steps) programs

-- The programs of a plan are safe.
abbrev pub ProgramsAreSafe : Type 0
ProgramsAreSafe = (s : Scenario) (p : Entries) (lanes : ℕ) (programs : List Program) → IsPlanOf s p → ArePrograms p lanes programs → AreSafe p programs

-- While a group of a scenario's plan isn't taken, one is open: so there is a serial order.
abbrev pub OrderGoesOn : Type 0
OrderGoesOn =
    (s : Scenario) (p : Entries) (taken : List ℕ) (a : ℕ) → IsPlanOf s p → a < length p.groups → (Contains taken (group_of p a) → ⊥)
    → (group : ℕ) × IsOpen p taken group

-- A plan has one list of programs for so many lanes.
abbrev pub ProgramsAreOne : Type 0
ProgramsAreOne = (p : Entries) (lanes : ℕ) (one other : List Program) → ArePrograms p lanes one → ArePrograms p lanes other → one ≡ other

-- In safe programs each action has one `Run`.
abbrev pub EachRunsOnce : Type 0
EachRunsOnce =
    (p : Entries) (programs : List Program) (a : ℕ) → AreSafe p programs → a < length p.groups
    → (lane : ℕ) × (place : ℕ) × Stands programs lane place (Run a) × ((other k : ℕ) → Stands programs other k (Run a) → (lane ≡ other) × (place ≡ k))

-- Over every list of moves the starts and ends begin a whole legal trace.
abbrev pub SafeIsPrefix : Type 0
SafeIsPrefix =
    (s : Scenario) (p : Entries) (programs : List Program) (moves : List Move) (state : State)
    → LinksStates s → IsPlanOf s p → widest p.groups ≤ length programs → AreSafe p programs → Reaches p programs moves state → Prefix s (length programs) state.trace

-- While a lane isn't at its program's end some move is possible.
abbrev pub SafeGoesOn : Type 0
SafeGoesOn =
    (s : Scenario) (p : Entries) (programs : List Program) (moves : List Move) (state : State) (lane : ℕ)
    → IsPlanOf s p → AreSafe p programs → Reaches p programs moves state → IsOnItsWay programs state lane
    → (move : Move) × (new : State) × Steps p programs state move new

-- Where every lane is at its end, the trace is whole.
abbrev pub SafeIsWhole : Type 0
SafeIsWhole =
    (s : Scenario) (p : Entries) (programs : List Program) (moves : List Move) (state : State)
    → IsPlanOf s p → AreSafe p programs → Reaches p programs moves state → HasEnded programs state → IsWhole s state.trace

-- There are at most as many moves as instructions and actions together.
abbrev pub SafeIsShort : Type 0
SafeIsShort =
    (s : Scenario) (p : Entries) (programs : List Program) (moves : List Move) (state : State)
    → IsPlanOf s p → AreSafe p programs → Reaches p programs moves state → length moves ≤ instructions programs + length s.actions
