use Rattle.std.proofs.Common.{◌<◌, List, length, subst}
use Rattle.std.specs.Prelude.{None, Some, Result}
use Rattle.pst_scen.specs.declared.event.Event.{Event}
use Rattle.pst_scen.specs.declared.scenario.Scenario.{Scenario}
use Rattle.pst_scen.specs.Trace.{IsLegalTrace, Prefix}
use Rattle.pst_model.specs.ModelView.{view_model}
use Rattle.pst_legal.specs.Body.{body_run}
use Rattle.pst_body.specs.declared.ending.BodyEnd.{BodyEnd}
use Rattle.pst_body.specs.Ran.{Ran}
use Rattle.pst_workers.specs.Told.{told}
use Rattle.pst_run_many.proofs.Lanes.{started_inside}
use Rattle.pst_run_many.proofs.Finishing.{lane_idle, lane_ended, lane_broke}
use Rattle.pst_run_many.proofs.alone.finish_lane.Goals as goal

pub run_body-requires-clause-inside : goal.run_body-requires-clause-inside
run_body-requires-clause-inside g c =
    let b = c.args.book.now in
    let legal = c.prefixes_are_legal.ensures b.scenario b.lanes b.trace (subst (λ (es : List Event). Prefix b.scenario b.lanes es) c.trace-trace.ensures.value c.trace-trace.ensures.prefix) in
    subst (λ (s : Scenario). c.in-Some.action < length s.actions) c.requires.of (started_inside b.scenario b.lanes b.trace legal c.in-Some.action (c.args.number, c.in-Some.ensures.0))

pub returns-in-None : goal.returns-in-None
returns-in-None g c =
    let b = c.args.book.now in
    let legal = c.prefixes_are_legal.ensures b.scenario b.lanes b.trace (subst (λ (es : List Event). Prefix b.scenario b.lanes es) c.trace-trace.ensures.value c.trace-trace.ensures.prefix) in
    lane_idle (view_model c.args.job.now.model.now) c.args.job.now.scenario.now c.args.number b (told g.T.Target.calls g.T.Target.faults c.args.lane.now)
    (c.lanes_run_one.ensures.starts b.scenario b.lanes b.trace legal c.args.number None c.in-None.ensures)

pub returns-in-Ok : goal.returns-in-Ok
returns-in-Ok g c =
    let b = c.args.book.now in
    let m = view_model c.args.job.now.model.now in
    let s = c.args.job.now.scenario.now in
    let calls = g.T.Target.calls in
    let faults = g.T.Target.faults in
    let a = c.in-Some.action in
    let legal = c.prefixes_are_legal.ensures b.scenario b.lanes b.trace (subst (λ (es : List Event). Prefix b.scenario b.lanes es) c.trace-trace.ensures.value c.trace-trace.ensures.prefix) in
    lane_ended m s c.args.number a b c.end-ended.new.self (told calls faults c.args.lane.now) (told calls faults c.run_body.new.lane) c.end-ended.result c.requires.of
    (c.acts_start_once.ensures.one_lane b.scenario b.lanes b.trace legal) c.in-Some.ensures.0 c.in-Some.ensures.1
    (c.lanes_run_one.ensures.starts b.scenario b.lanes b.trace legal c.args.number (Some a) c.in-Some.ensures)
    (subst (λ (r : Result Unit BodyEnd). Ran {A = Unit {0}} (body_run m s a) (calls c.args.lane.now) (calls c.run_body.new.lane) (faults c.args.lane.now) (faults c.run_body.new.lane) r) c.in-Ok.is c.run_body.ensures)
    c.end-ended.ensures.is c.end-ended.ensures.yes

pub returns-in-Err : goal.returns-in-Err
returns-in-Err g c =
    let b = c.args.book.now in
    let m = view_model c.args.job.now.model.now in
    let s = c.args.job.now.scenario.now in
    let calls = g.T.Target.calls in
    let faults = g.T.Target.faults in
    let a = c.in-Some.action in
    let legal = c.prefixes_are_legal.ensures b.scenario b.lanes b.trace (subst (λ (es : List Event). Prefix b.scenario b.lanes es) c.trace-trace.ensures.value c.trace-trace.ensures.prefix) in
    lane_broke m s c.args.number a c.in-Err.end b (told calls faults c.args.lane.now) (told calls faults c.run_body.new.lane)
    (c.lanes_run_one.ensures.starts b.scenario b.lanes b.trace legal c.args.number (Some a) c.in-Some.ensures)
    (subst (λ (r : Result Unit BodyEnd). Ran {A = Unit {0}} (body_run m s a) (calls c.args.lane.now) (calls c.run_body.new.lane) (faults c.args.lane.now) (faults c.run_body.new.lane) r) c.in-Err.is c.run_body.ensures)
