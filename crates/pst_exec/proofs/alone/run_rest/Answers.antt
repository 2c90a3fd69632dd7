use Rattle.pst_model.specs.ModelView.{view_model}
use Rattle.pst_exec.proofs.Going.{going_next}
use Rattle.pst_exec.proofs.alone.run_rest.Goals as goal

pub actions-preserved : goal.actions-preserved
actions-preserved g c = record {
  going = going_next (view_model c.args.model.now) c.args.book.now c.actions.book c.run_next.new.book (g.T.Target.calls c.args.lane.now) (g.T.Target.calls c.actions.lane) (g.T.Target.calls c.run_next.new.lane) (g.T.Target.faults c.args.lane.now) (g.T.Target.faults c.actions.lane) (g.T.Target.faults c.run_next.new.lane) c.actions.invariant.going c.in_ok-run_next.ensures.runs.0 c.in_ok-run_next.ensures.runs.1;
  fits = c.in_ok-run_next.ensures.fits;
}
