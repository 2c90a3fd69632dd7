-- Worked rows: two actions that lock one resource, on two lanes.
use Rattle.std.specs.Prelude.{◌≡◌, ℕ, List, [], ◌∷◌, false}
use Rattle.pst_scen.specs.declared.rows.Rows.{Rows}
use Rattle.pst_scen.specs.declared.event.Event.{Event}
use Rattle.pst_scen.specs.declared.event.Event.TheVariants.{Start, End}
use Rattle.pst_scen.specs.Plan.{Entries}
use Rattle.pst_programs.specs.declared.program.Instruction.TheVariants.{Run, Signal, Await}
use Rattle.pst_programs.specs.declared.program.Program.{Program}
use Rattle.pst_programs.specs.declared.program.Move.TheVariants.{Pass, Begin}
use Rattle.pst_programs.specs.declared.program.Move.TheVariants as move
use Rattle.pst_programs.specs.Programs.{ArePrograms}
use Rattle.pst_programs.specs.Machine.{State, Steps, Reaches, HasEnded, at_first}
use Rattle.pst_programs.specs.Laws.{instructions}

abbrev pub square : List ℕ → Rows
square words = record { size = 2; words = words }

-- schedule { do A; do A; }
abbrev pub plan : Entries
plan = record { groups = 0 ∷ 1 ∷ []; must = square (0 ∷ 0 ∷ []); conflict = square (2 ∷ 1 ∷ []) }

abbrev pub programs : List Program
programs = record { steps = Run 0 ∷ Signal 0 ∷ [] } ∷ record { steps = Await 0 ∷ Run 1 ∷ [] } ∷ []

-- where the second lane doesn't wait
abbrev pub hasty : List Program
hasty = record { steps = Run 0 ∷ [] } ∷ record { steps = Run 1 ∷ [] } ∷ []

abbrev pub in_turn : List Event
in_turn = Start 0 0 false ∷ End 0 ∷ Start 1 1 false ∷ End 1 ∷ []

pub record RowsAreTried : Type 0 where
  pub are : ArePrograms plan 2 programs
  pub are_not : ArePrograms plan 2 hasty → ⊥
  pub count : instructions programs ≡ 4
  -- at first the second lane can't go on
  pub no_begin : (new : State) → Steps plan programs (at_first programs) (Begin 1) new → ⊥
  pub no_pass : (new : State) → Steps plan programs (at_first programs) (Pass 1) new → ⊥
  -- six moves reach the end
  pub end : State
  pub reaches : Reaches plan programs (move.End 1 ∷ Begin 1 ∷ Pass 1 ∷ Pass 0 ∷ move.End 0 ∷ Begin 0 ∷ []) end
  pub ended : HasEnded programs end
  pub trace : end.trace ≡ in_turn
