use Rattle.std.proofs.Common.{◌*◌, ◌-◌, length}
use Rattle.pst_model.specs.ModelView.{view_model}
use Rattle.pst_workers.specs.Told.{told}
use Rattle.pst_run_many.proofs.Finishing.{Went}
use Rattle.pst_run_many.proofs.alone.finish_run.Given as goal

abbrev pub invariant-actions : goal.invariant-actions
invariant-actions g l = Went (told g.T.Target.calls g.T.Target.faults) (view_model l.job.model.now) l.job.scenario.now l.fn.book l.book l.fn.lanes l.lanes

abbrev pub decreases-actions : goal.decreases-actions
decreases-actions g l = 2 * length l.book.scenario.actions - length l.book.trace
