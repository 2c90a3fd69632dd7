-- The invariant of a run.
use Rattle.std.specs.Prelude.{vec_capacity}
use Rattle.pst_book.specs.declared.run.Run.TheInside.{Inside}
use Rattle.pst_book.specs.Tables.{RunView, AreTied}

abbrev pub run_of : Inside → RunView
run_of r = record { plan = r.plan; lanes = r.lanes; trace = r.trace.items; room = vec_capacity r.trace }

-- the tables are the trace's
abbrev pub IsTied : Inside → Type 0
IsTied r = AreTied r.plan r.lanes r.trace.items r.started.items r.ended.items r.awaited.items r.in_the_way.items r.next.items r.holders.items r.first r.left
