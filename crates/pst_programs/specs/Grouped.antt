-- Worked row: two pairs of stream partners, one pair after the other, on two lanes.
use Rattle.std.specs.Prelude.{ℕ, List, [], ◌∷◌}
use Rattle.pst_scen.specs.declared.rows.Rows.{Rows}
use Rattle.pst_scen.specs.Plan.{Entries}
use Rattle.pst_programs.specs.declared.program.Instruction.TheVariants.{Run, Signal, Await}
use Rattle.pst_programs.specs.declared.program.Program.{Program}
use Rattle.pst_programs.specs.Programs.{ArePrograms}

abbrev pub square : List ℕ → Rows
square words = record { size = 4; words = words }

-- the first action must end before the second starts, and so before the second's partner does
abbrev pub plan : Entries
plan = record { groups = 0 ∷ 1 ∷ 0 ∷ 1 ∷ []; must = square (10 ∷ 0 ∷ 0 ∷ 0 ∷ []); conflict = square (0 ∷ 0 ∷ 0 ∷ 0 ∷ []) }

abbrev pub programs : List Program
programs = record { steps = Run 0 ∷ Signal 0 ∷ Run 1 ∷ [] } ∷ record { steps = Run 2 ∷ Await 0 ∷ Run 3 ∷ [] } ∷ []

abbrev pub PairsAreTried : Type 0
PairsAreTried = ArePrograms plan 2 programs
