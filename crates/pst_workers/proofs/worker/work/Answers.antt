use Rattle.std.proofs.Common.{subst}
use Rattle.std.specs.Prelude.{Result}
use Rattle.pst_model.specs.ModelView.{view_model}
use Rattle.pst_legal.specs.Body.{body_run}
use Rattle.pst_body.specs.declared.ending.BodyEnd.{BodyEnd}
use Rattle.pst_body.specs.Ran.{Ran}
use Rattle.pst_workers.specs.Told.{told}
use Rattle.pst_workers.proofs.Working.{working_next}
use Rattle.pst_workers.proofs.worker.work.Goals as goal

pub loop-preserved : goal.loop-preserved
loop-preserved g c =
    let m = view_model c.args.job.now.model.now in
    let s = c.args.job.now.scenario.now in
    let calls = g.T.Target.calls in
    let faults = g.T.Target.faults in
    let next = c.in-Ok.ensures in
    working_next m s g.N.Name.table c.args.seat.lane c.in-Ok.action (told calls faults c.args.lane) (told calls faults c.loop.lane) (told calls faults c.run_body.new.lane) c.loop.seat c.next-in-loop.new.seat c.hand_back.new.seat
    c.loop.invariant (record { table = next.table; lane = next.lane; finished = next.finished }) next.fetched
    (subst (λ (r : Result Unit BodyEnd). Ran {A = Unit {0}} (body_run m s c.in-Ok.action) (calls c.loop.lane) (calls c.run_body.new.lane) (faults c.loop.lane) (faults c.run_body.new.lane) r) c.in_default.is c.run_body.ensures)
    c.hand_back.ensures
