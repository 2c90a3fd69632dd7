use Rattle.std.proofs.Common.{◌≤◌, ◌*◌, ◌-◌, length}
use Rattle.pst_model.specs.ModelView.{view_model}
use Rattle.pst_exec.specs.Steps.{Going}
use Rattle.pst_exec.proofs.alone.run_rest.Given as goal

abbrev pub invariant-actions : goal.invariant-actions
invariant-actions g l = record {
  going : Going (view_model l.model) l.fn.book l.book (g.T.Target.calls l.fn.lane) (g.T.Target.calls l.lane) (g.T.Target.faults l.fn.lane) (g.T.Target.faults l.lane);
  fits : length l.book.trace ≤ 2 * length l.book.scenario.actions;
}

abbrev pub decreases-actions : goal.decreases-actions
decreases-actions g l = 2 * length l.book.scenario.actions - length l.book.trace
