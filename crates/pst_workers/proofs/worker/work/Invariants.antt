use Rattle.pst_model.specs.ModelView.{view_model}
use Rattle.pst_workers.specs.Told.{told}
use Rattle.pst_workers.proofs.Working.{Working}
use Rattle.pst_workers.proofs.worker.work.Given as goal

abbrev pub invariant-loop : goal.invariant-loop
invariant-loop g l =
    Working (view_model l.job.model.now) l.job.scenario.now g.N.Name.table l.fn.seat.lane (told g.T.Target.calls g.T.Target.faults l.fn.lane) (told g.T.Target.calls g.T.Target.faults l.lane) l.seat
