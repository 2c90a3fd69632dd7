use Rattle.std.specs.Prelude.{Some}
use Rattle.std.proofs.lemmas.Result.{err_from_is_err_and}
use Rattle.pst_model.specs.ModelView.{view_model}
use Rattle.pst_workers.specs.Told.{told}
use Rattle.pst_run_many.proofs.Finishing.{went_first, went_more, comes_more}
use Rattle.pst_run_many.proofs.alone.finish_run.Goals as goal

pub returns-in_err-finish_lanes-clause-came : goal.returns-in_err-finish_lanes-clause-came
returns-in_err-finish_lanes-clause-came g c = λ k d e before h ran.
    let p = err_from_is_err_and c.from_residual.result c.from_residual.ensures.1 in
    rw (p.1, p.2) (c.in_err-finish_lanes.ensures.came k d e before h ran)

pub actions-init : goal.actions-init
actions-init g c =
    went_first (told g.T.Target.calls g.T.Target.faults) (view_model c.args.job.now.model.now) c.args.job.now.scenario.now c.args.book.now c.finish_lanes.new.book c.args.lanes.now c.finish_lanes.new.lanes
    c.in_ok-finish_lanes.ensures.goes_on c.in_ok-finish_lanes.ensures.count c.in_ok-finish_lanes.ensures.idle c.in_ok-finish_lanes.ensures.came

pub actions-preserved : goal.actions-preserved
actions-preserved g c =
    went_more (told g.T.Target.calls g.T.Target.faults) (view_model c.args.job.now.model.now) c.args.job.now.scenario.now c.args.book.now c.actions.book c.open_next.new.book c.finish_lanes-in-actions.new.book c.args.lanes.now c.actions.lanes c.finish_lanes-in-actions.new.lanes
    c.actions.invariant c.open_next.ensures.opens c.in_ok-finish_lanes-2.ensures.goes_on c.in_ok-finish_lanes-2.ensures.count c.in_ok-finish_lanes-2.ensures.idle c.in_ok-finish_lanes-2.ensures.came

pub returns-in_err-finish_lanes-2-clause-came : goal.returns-in_err-finish_lanes-2-clause-came
returns-in_err-finish_lanes-2-clause-came g c = λ k d e before h ran.
    let p = err_from_is_err_and c.from_residual-in_err-finish_lanes-2.result c.from_residual-in_err-finish_lanes-2.ensures.1 in
    rw (p.1, p.2) (comes_more (told g.T.Target.calls g.T.Target.faults) (view_model c.args.job.now.model.now) c.args.job.now.scenario.now (Some c.in_err-finish_lanes-2.field-0.0) c.args.book.now c.actions.book c.open_next.new.book c.finish_lanes-in-actions.new.book c.args.lanes.now c.actions.lanes c.finish_lanes-in-actions.new.lanes
    c.actions.invariant c.open_next.ensures.opens c.in_err-finish_lanes-2.ensures.came k d e before h ran)
