use Rattle.pst_model.specs.ModelView.{view_model}
use Rattle.pst_workers.specs.Told.{told}
use Rattle.pst_run_many.proofs.Finishing.{Finished}
use Rattle.pst_run_many.proofs.alone.finish_lanes.Given as goal

abbrev pub invariant-loop-number : goal.invariant-loop-number
invariant-loop-number g l = Finished (told g.T.Target.calls g.T.Target.faults) (view_model l.job.model.now) l.job.scenario.now l.fn.book l.book l.fn.lanes l.lanes l.number
