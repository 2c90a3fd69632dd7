-- What a machine is seen as, and what its tables say of that.
use Rattle.std.specs.Prelude.{◌≡◌, ◌↔◌, ◌*◌, ◌≤◌, ◌<◌, ℕ, List, length, get_or, Bool, true, false, Contains}
use Rattle.pst_scen.specs.declared.scenario.Scenario.{Scenario}
use Rattle.pst_scen.specs.Trace.{Started}
use Rattle.pst_scen.specs.Plan.{Entries, widest}
use Rattle.pst_scen.specs.Plans.{IsPlanOf}
use Rattle.pst_order.specs.Facts.{LinksStates}
use Rattle.pst_book.specs.Tables.{AreNext}
use Rattle.pst_programs.specs.declared.program.Program.{Program}
use Rattle.pst_programs.specs.declared.program.Move.{Move}
use Rattle.pst_programs.specs.Programs.{ArePrograms}
use Rattle.pst_programs.specs.Machine.{State, Reaches}

-- a machine is seen as its plan and its programs, and the state that it is in
pub record View : Type 0 where
  pub plan : Entries
  pub programs : List Program
  pub state : State

-- Moves led to the state, and the tables tell which actions started and of which lanes were told.
pub record IsTied (view : View) (next : List ℕ) (started told : List Bool) (room told_room : ℕ) : Type 0 where
  pub planned : (s : Scenario) × LinksStates s × IsPlanOf s view.plan
  pub are : ArePrograms view.plan (length view.programs) view.programs
  pub few : length view.programs ≤ 16
  pub wide : widest view.plan.groups ≤ length view.programs
  pub reached : (moves : List Move) × Reaches view.plan view.programs moves view.state
  pub next_is : AreNext view.plan.groups next
  pub many_started : length started ≡ length view.plan.groups
  pub many_told : length told ≡ length view.plan.groups
  pub started_is : (a : ℕ) → a < length view.plan.groups → (get_or started a false ≡ true) ↔ Started view.state.trace a
  pub told_is : (a : ℕ) → a < length view.plan.groups → (get_or told a false ≡ true) ↔ Contains view.state.signals a
  pub has_room : 2 * length view.plan.groups ≤ room
  pub has_told_room : length view.plan.groups ≤ told_room
