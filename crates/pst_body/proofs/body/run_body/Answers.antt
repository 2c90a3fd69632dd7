use Rattle.std.proofs.Common.{List, [], map, length, ap, subst, sym, ◌∙◌}
use Rattle.std.specs.List.{flat_map}
use Rattle.pst_model.specs.declared.action.Content.{Content}
use Rattle.pst_model.specs.declared.body.BodyStep.{BodyStep}
use Rattle.pst_model.specs.ModelView.{view_model, view_action, view_content, view_body_step}
use Rattle.pst_legal.specs.Body.{ranges_in, steps_in, body_of, body_run}
use Rattle.pst_body.specs.Ran.{Ran}
use Rattle.pst_body.specs.Ready.{AreReady}
use Rattle.pst_body.proofs.Sound.{body_ready}
use Rattle.pst_body.proofs.Running.{ran_as, ran_empty, run_is}
use Rattle.pst_body.proofs.body.run_body.Goals as goal

pub type_at-action-requires : goal.type_at-action-requires
type_at-action-requires g c = c.requires.types c.args.act c.act_at-found.result.now c.act_at-found.ensures

pub run_steps_of-requires : goal.run_steps_of-requires
run_steps_of-requires g c =
    let m = view_model c.args.model.now in
    subst (λ (l : List BodyStep). AreReady m (length (flat_map ranges_in (map view_body_step l))) (map view_body_step l)) (sym c.as_slice-steps.ensures.value)
    (body_ready m c.act_at-found.result.now.action (view_action c.type_at-action.result.now) (map view_body_step c.in-Atomic.body.items) c.requires.sound c.type_at-action.ensures (ap view_content c.in-Atomic.is))

pub returns-in-Atomic : goal.returns-in-Atomic
returns-in-Atomic g c =
    let m = view_model c.args.model.now in
    let s = c.args.scenario.now in
    let act = c.act_at-found.result.now in
    ran_as (body_run m s c.args.act) (λ calls. body_of m s calls c.args.act act (map view_body_step c.in-Atomic.body.items)) (g.T.Target.calls c.args.lane.now) (g.T.Target.calls c.run_steps_of.new.lane) (g.T.Target.faults c.args.lane.now) (g.T.Target.faults c.run_steps_of.new.lane) c.run_steps_of.result
    (λ calls. run_is m s c.args.act act (view_action c.type_at-action.result.now) c.act_at-found.ensures c.type_at-action.ensures calls ∙ ap (λ (t : Content). body_of m s calls c.args.act act (steps_in (view_content t))) c.in-Atomic.is)
    (subst (λ (l : List BodyStep). Ran (λ calls. body_of m s calls c.args.act act (map view_body_step l)) (g.T.Target.calls c.args.lane.now) (g.T.Target.calls c.run_steps_of.new.lane) (g.T.Target.faults c.args.lane.now) (g.T.Target.faults c.run_steps_of.new.lane) c.run_steps_of.result) c.as_slice-steps.ensures.value c.run_steps_of.ensures)

pub returns-in-Compound : goal.returns-in-Compound
returns-in-Compound g c =
    let m = view_model c.args.model.now in
    let s = c.args.scenario.now in
    let act = c.act_at-found.result.now in
    ran_as (body_run m s c.args.act) (λ calls. body_of m s calls c.args.act act []) (g.T.Target.calls c.args.lane.now) (g.T.Target.calls c.args.lane.now) (g.T.Target.faults c.args.lane.now) (g.T.Target.faults c.args.lane.now) _
    (λ calls. run_is m s c.args.act act (view_action c.type_at-action.result.now) c.act_at-found.ensures c.type_at-action.ensures calls ∙ ap (λ (t : Content). body_of m s calls c.args.act act (steps_in (view_content t))) c.in-Compound.is)
    (ran_empty (tt {0}) m s c.args.act act (g.T.Target.calls c.args.lane.now) (g.T.Target.faults c.args.lane.now))
