use Rattle.std.proofs.Common.{◌<◌, get_or, length, arith}
use Rattle.std.proofs.lemmas.Result.{err_from_is_err_and}
use Rattle.pst_model.specs.ModelView.{view_model}
use Rattle.pst_workers.specs.Told.{told}
use Rattle.pst_workers.proofs.Rows.{any_default}
use Rattle.pst_run_many.proofs.Finishing.{one_broke}
use Rattle.pst_run_many.proofs.alone.finish_lanes.Goals as goal

pub returns-in_err-finish_lane-clause-came : goal.returns-in_err-finish_lane-clause-came
returns-in_err-finish_lane-clause-came g c = λ k d e before h ran.
    let p = err_from_is_err_and c.from_residual.result c.from_residual.ensures.1 in
    let n = c.loop-number.number in
    let lanes = c.loop-number.lanes in
    let was = get_or lanes n c.index-lanes-number.result in
    let count = c.loop-number.invariant.count in
    let inside : n < length c.args.lanes.now = omega (arith, c.loop-number-test.true, c.lanes-number-end.ensures, c.requires.lanes) in
    let low : n < length lanes = omega (arith, inside, count) in
    rw (p.1, p.2) (one_broke (told g.T.Target.calls g.T.Target.faults) (view_model c.args.job.now.model.now) c.args.job.now.scenario.now c.args.book.now c.loop-number.book c.finish_lane.new.book c.args.lanes.now lanes n was c.finish_lane.new.lane c.in_err-finish_lane.field-0.0
    inside (any_default lanes n c.index-lanes-number.result was low) c.loop-number.invariant c.in_err-finish_lane.ensures k d e before h ran)
