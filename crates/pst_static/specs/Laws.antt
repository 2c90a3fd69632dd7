-- How many instructions a plan's programs have.
use Rattle.std.specs.Prelude.{ℕ, ◌+◌, ◌*◌, ◌≤◌, List, length}
use Rattle.pst_scen.specs.declared.scenario.Scenario.{Scenario}
use Rattle.pst_scen.specs.Plan.{Entries}
use Rattle.pst_scen.specs.Plans.{IsPlanOf}
use Rattle.pst_programs.specs.declared.program.Program.{Program}
use Rattle.pst_programs.specs.Programs.{ArePrograms}
use Rattle.pst_programs.specs.Laws.{instructions}

-- For each action there are no more than the actions and two.
abbrev pub ProgramsAreFew : Type 0
ProgramsAreFew =
    (s : Scenario) (p : Entries) (lanes : ℕ) (programs : List Program) → IsPlanOf s p → ArePrograms p lanes programs → instructions programs ≤ (length p.groups + 2) * length p.groups
