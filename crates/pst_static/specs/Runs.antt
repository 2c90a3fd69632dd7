-- What a run keeps, and its state.
use Rattle.std.specs.Prelude.{List, vec_capacity}
use Rattle.pst_scen.specs.Plan.{Entries}
use Rattle.pst_programs.specs.declared.program.Program.{Program}
use Rattle.pst_programs.specs.Machine.{State}
use Rattle.pst_static.specs.declared.run.Progress.{Progress}
use Rattle.pst_static.specs.Views.{IsTied}

abbrev pub state_of : Progress → State
state_of run = record { places = run.places.items; signals = run.signals.items; trace = run.trace.items }

abbrev pub IsRun : Entries → List Program → Progress → Type 0
IsRun p programs run =
    IsTied (record { plan = p; programs = programs; state = state_of run }) run.next.items run.started.items run.told.items (vec_capacity run.trace) (vec_capacity run.signals)
