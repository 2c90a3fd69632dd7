-- The view and the invariant of a machine.
use Rattle.pst_static.specs.declared.machine.Machine.TheInside.{Inside}
use Rattle.pst_static.specs.Views.{View}
use Rattle.pst_static.specs.Runs.{state_of, IsRun}

abbrev pub view_of : Inside → View
view_of m = record { plan = m.plan.now; programs = m.programs.now; state = state_of m.run }

abbrev pub IsKept : Inside → Type 0
IsKept m = IsRun m.plan.now m.programs.now m.run
