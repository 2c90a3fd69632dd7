use Rattle.std.proofs.Common.{◌+◌, ℕ, Bool, true, false, List, Ok, Err, All, length, map, ap, subst, sym, ◌∙◌, arith}
use Rattle.std.proofs.lemmas.Result.{err_from_is_err_and}
use Rattle.pst_model.specs.declared.constraint.Constraint.{Constraint}
use Rattle.pst_model.specs.declared.body.BodyStep.{BodyStep}
use Rattle.pst_model.specs.ConstraintTree.{view_constraint}
use Rattle.pst_model.specs.ModelView.{view_model, view_body_step}
use Rattle.pst_legal.specs.Body.{call, run_steps}
use Rattle.pst_body.specs.Sites.{place_of}
use Rattle.pst_body.specs.Stores.{Store}
use Rattle.pst_body.specs.Doing.{goes_on, DidTo}
use Rattle.pst_body.specs.Ready.{CanRun}
use Rattle.pst_body.specs.Steps.{dropped, begun, turns_of, Decided}
use Rattle.pst_body.proofs.Steps.{step_unticked, step_did, can_if, can_repeat, if_undecided, if_did, repeat_uncounted, repeat_did, turning_unticked, turning_stopped, turning_next, stepping_stopped, stepping_next, Turning, before_one, less_one, all_drop_at}
use Rattle.pst_body.proofs.Sizes.{size, sizes, size_if, size_repeat, item_size}
use Rattle.pst_body.proofs.step.+steps.Goals as goal

pub run_begun-returns-in-Declare : goal.run_begun-returns-in-Declare
run_begun-returns-in-Declare g t c =
    subst (λ (s : BodyStep). DidTo (begun (place_of c.args.site.now c.args.turns.now) (view_body_step s)) (goes_on {A = Unit {0}}) c.args.memory.now c.declare.new.memory (g.T.Target.calls c.args.lane.now) (g.T.Target.calls c.declare.new.lane) (g.T.Target.faults c.args.lane.now) (g.T.Target.faults c.declare.new.lane) c.declare.result) (sym c.in-Declare.is)
    (c.declare.ensures)

pub run_begun-returns-in-Assign : goal.run_begun-returns-in-Assign
run_begun-returns-in-Assign g t c =
    subst (λ (s : BodyStep). DidTo (begun (place_of c.args.site.now c.args.turns.now) (view_body_step s)) (goes_on {A = Unit {0}}) c.args.memory.now c.assign.new.memory (g.T.Target.calls c.args.lane.now) (g.T.Target.calls c.assign.new.lane) (g.T.Target.faults c.args.lane.now) (g.T.Target.faults c.assign.new.lane) c.assign.result) (sym c.in-Assign.is)
    (c.assign.ensures)

pub run_begun-returns-in-Call : goal.run_begun-returns-in-Call
run_begun-returns-in-Call g t c =
    subst (λ (s : BodyStep). DidTo (begun (place_of c.args.site.now c.args.turns.now) (view_body_step s)) (goes_on {A = Unit {0}}) c.args.memory.now c.call_only.new.memory (g.T.Target.calls c.args.lane.now) (g.T.Target.calls c.call_only.new.lane) (g.T.Target.faults c.args.lane.now) (g.T.Target.faults c.call_only.new.lane) c.call_only.result) (sym c.in-Call.is)
    (subst (λ (l : List Constraint). DidTo (λ state. call (place_of c.args.site.now c.args.turns.now) state c.in-Call.function (map view_constraint l) dropped) (goes_on {A = Unit {0}}) c.args.memory.now c.call_only.new.memory (g.T.Target.calls c.args.lane.now) (g.T.Target.calls c.call_only.new.lane) (g.T.Target.faults c.args.lane.now) (g.T.Target.faults c.call_only.new.lane) c.call_only.result) c.as_slice.ensures.value c.call_only.ensures)

pub run_begun-returns-in_err-failed-in-If : goal.run_begun-returns-in_err-failed-in-If
run_begun-returns-in_err-failed-in-If g t c =
    let p = err_from_is_err_and c.from_residual.result c.from_residual.ensures.1 in
    rw (p.1, p.2) (
    subst (λ (s : BodyStep). DidTo (begun (place_of c.args.site.now c.args.turns.now) (view_body_step s)) (goes_on {A = Unit {0}}) c.args.memory.now c.fails.new.memory (g.T.Target.calls c.args.lane.now) (g.T.Target.calls c.args.lane.now) (g.T.Target.faults c.args.lane.now) (g.T.Target.faults c.args.lane.now) (Err c.in_err-failed-in-If.field-0.0)) (sym c.in-If.is)
    (if_undecided (place_of c.args.site.now c.args.turns.now) c.in-If.condition c.in-If.yes c.in-If.no c.args.memory.now c.fails.new.memory (g.T.Target.calls c.args.lane.now) (g.T.Target.faults c.args.lane.now) c.in_err-failed-in-If.field-0.0 c.in_err-failed-in-If.ensures.value c.in_err-failed-in-If.ensures.same)
    )

pub run_begun-run_steps-requires : goal.run_begun-run_steps-requires
run_begun-run_steps-requires g t c κs within =
    let can = can_if (view_model c.args.site.now.model.now) (length c.args.site.now.ranges.now) c.args.memory.now.room c.in-If.condition c.in-If.yes c.in-If.no (subst (λ (s : BodyStep). CanRun (view_model c.args.site.now.model.now) (length c.args.site.now.ranges.now) c.args.memory.now.room (view_body_step s)) c.in-If.is c.requires.ready) in
    let ready : All (CanRun (view_model c.args.site.now.model.now) (length c.args.site.now.ranges.now) c.fails.new.memory.room) (map view_body_step c.as_slice-when_false.result.now) =
    subst (λ (l : List BodyStep). All (CanRun (view_model c.args.site.now.model.now) (length c.args.site.now.ranges.now) c.fails.new.memory.room) (map view_body_step l)) (sym c.as_slice-when_false.ensures.value)
    (subst (λ (n : ℕ). All (CanRun (view_model c.args.site.now.model.now) (length c.args.site.now.ranges.now) n) (map view_body_step c.in-If.no.items)) (sym (ap (λ (m : Store). m.room) c.in_ok-failed-in-If.ensures.same)) can.2) in
    let part = ap (λ (l : List BodyStep). sizes (map view_body_step l)) c.as_slice-when_false.ensures.value in
    let whole = ap (λ (s : BodyStep). size (view_body_step s)) c.in-If.is ∙ size_if c.in-If.condition c.in-If.yes c.in-If.no in
    let before = c.decreases in
    (omega (arith, part, whole, before), (within, ready))

pub run_begun-run_steps-requires-else-failed : goal.run_begun-run_steps-requires-else-failed
run_begun-run_steps-requires-else-failed g t c κs within =
    let can = can_if (view_model c.args.site.now.model.now) (length c.args.site.now.ranges.now) c.args.memory.now.room c.in-If.condition c.in-If.yes c.in-If.no (subst (λ (s : BodyStep). CanRun (view_model c.args.site.now.model.now) (length c.args.site.now.ranges.now) c.args.memory.now.room (view_body_step s)) c.in-If.is c.requires.ready) in
    let ready : All (CanRun (view_model c.args.site.now.model.now) (length c.args.site.now.ranges.now) c.fails.new.memory.room) (map view_body_step c.as_slice-when_true.result.now) =
    subst (λ (l : List BodyStep). All (CanRun (view_model c.args.site.now.model.now) (length c.args.site.now.ranges.now) c.fails.new.memory.room) (map view_body_step l)) (sym c.as_slice-when_true.ensures.value)
    (subst (λ (n : ℕ). All (CanRun (view_model c.args.site.now.model.now) (length c.args.site.now.ranges.now) n) (map view_body_step c.in-If.yes.items)) (sym (ap (λ (m : Store). m.room) c.in_ok-failed-in-If.ensures.same)) can.1) in
    let part = ap (λ (l : List BodyStep). sizes (map view_body_step l)) c.as_slice-when_true.ensures.value in
    let whole = ap (λ (s : BodyStep). size (view_body_step s)) c.in-If.is ∙ size_if c.in-If.condition c.in-If.yes c.in-If.no in
    let before = c.decreases in
    (omega (arith, part, whole, before), (within, ready))

pub run_begun-returns-then-failed : goal.run_begun-returns-then-failed
run_begun-returns-then-failed g t c =
    subst (λ (s : BodyStep). DidTo (begun (place_of c.args.site.now c.args.turns.now) (view_body_step s)) (goes_on {A = Unit {0}}) c.args.memory.now c.run_steps.new.memory (g.T.Target.calls c.args.lane.now) (g.T.Target.calls c.run_steps.new.lane) (g.T.Target.faults c.args.lane.now) (g.T.Target.faults c.run_steps.new.lane) c.run_steps.result) (sym c.in-If.is)
    (if_did (place_of c.args.site.now c.args.turns.now) c.in-If.condition c.in-If.yes c.in-If.no true c.args.memory.now c.fails.new.memory c.run_steps.new.memory (g.T.Target.calls c.args.lane.now) (g.T.Target.calls c.run_steps.new.lane) (g.T.Target.faults c.args.lane.now) (g.T.Target.faults c.run_steps.new.lane) c.run_steps.result (subst (λ (b : Bool). Decided (place_of c.args.site.now c.args.turns.now) (view_constraint c.in-If.condition) c.args.memory.now (Ok b)) c.if-failed.true c.in_ok-failed-in-If.ensures.value) c.in_ok-failed-in-If.ensures.same (subst (λ (l : List BodyStep). DidTo (run_steps (place_of c.args.site.now c.args.turns.now) (map view_body_step l)) (goes_on {A = Unit {0}}) c.fails.new.memory c.run_steps.new.memory (g.T.Target.calls c.args.lane.now) (g.T.Target.calls c.run_steps.new.lane) (g.T.Target.faults c.args.lane.now) (g.T.Target.faults c.run_steps.new.lane) c.run_steps.result) c.as_slice-when_false.ensures.value c.run_steps.ensures))

pub run_begun-returns-else-failed : goal.run_begun-returns-else-failed
run_begun-returns-else-failed g t c =
    subst (λ (s : BodyStep). DidTo (begun (place_of c.args.site.now c.args.turns.now) (view_body_step s)) (goes_on {A = Unit {0}}) c.args.memory.now c.run_steps-else-failed.new.memory (g.T.Target.calls c.args.lane.now) (g.T.Target.calls c.run_steps-else-failed.new.lane) (g.T.Target.faults c.args.lane.now) (g.T.Target.faults c.run_steps-else-failed.new.lane) c.run_steps-else-failed.result) (sym c.in-If.is)
    (if_did (place_of c.args.site.now c.args.turns.now) c.in-If.condition c.in-If.yes c.in-If.no false c.args.memory.now c.fails.new.memory c.run_steps-else-failed.new.memory (g.T.Target.calls c.args.lane.now) (g.T.Target.calls c.run_steps-else-failed.new.lane) (g.T.Target.faults c.args.lane.now) (g.T.Target.faults c.run_steps-else-failed.new.lane) c.run_steps-else-failed.result (subst (λ (b : Bool). Decided (place_of c.args.site.now c.args.turns.now) (view_constraint c.in-If.condition) c.args.memory.now (Ok b)) c.if-failed.false c.in_ok-failed-in-If.ensures.value) c.in_ok-failed-in-If.ensures.same (subst (λ (l : List BodyStep). DidTo (run_steps (place_of c.args.site.now c.args.turns.now) (map view_body_step l)) (goes_on {A = Unit {0}}) c.fails.new.memory c.run_steps-else-failed.new.memory (g.T.Target.calls c.args.lane.now) (g.T.Target.calls c.run_steps-else-failed.new.lane) (g.T.Target.faults c.args.lane.now) (g.T.Target.faults c.run_steps-else-failed.new.lane) c.run_steps-else-failed.result) c.as_slice-when_true.ensures.value c.run_steps-else-failed.ensures))

pub run_begun-returns-in_err-number-in-Repeat : goal.run_begun-returns-in_err-number-in-Repeat
run_begun-returns-in_err-number-in-Repeat g t c =
    let p = err_from_is_err_and c.from_residual-in_err-number-in-Repeat.result c.from_residual-in_err-number-in-Repeat.ensures.1 in
    rw (p.1, p.2) (
    subst (λ (s : BodyStep). DidTo (begun (place_of c.args.site.now c.args.turns.now) (view_body_step s)) (goes_on {A = Unit {0}}) c.args.memory.now c.count_of.new.memory (g.T.Target.calls c.args.lane.now) (g.T.Target.calls c.args.lane.now) (g.T.Target.faults c.args.lane.now) (g.T.Target.faults c.args.lane.now) (Err c.in_err-number-in-Repeat.field-0.0)) (sym c.in-Repeat.is)
    (repeat_uncounted (place_of c.args.site.now c.args.turns.now) c.in-Repeat.count c.in-Repeat.body c.args.memory.now c.count_of.new.memory (g.T.Target.calls c.args.lane.now) (g.T.Target.faults c.args.lane.now) c.in_err-number-in-Repeat.field-0.0 c.in_err-number-in-Repeat.ensures.value c.in_err-number-in-Repeat.ensures.same)
    )

pub run_begun-run_turns-requires : goal.run_begun-run_turns-requires
run_begun-run_turns-requires g t c κs within =
    let can = can_repeat (view_model c.args.site.now.model.now) (length c.args.site.now.ranges.now) c.args.memory.now.room c.in-Repeat.count c.in-Repeat.body (subst (λ (s : BodyStep). CanRun (view_model c.args.site.now.model.now) (length c.args.site.now.ranges.now) c.args.memory.now.room (view_body_step s)) c.in-Repeat.is c.requires.ready) in
    let ready : All (CanRun (view_model c.args.site.now.model.now) (length c.args.site.now.ranges.now) c.count_of.new.memory.room) (map view_body_step c.as_slice-steps.result.now) =
    subst (λ (l : List BodyStep). All (CanRun (view_model c.args.site.now.model.now) (length c.args.site.now.ranges.now) c.count_of.new.memory.room) (map view_body_step l)) (sym c.as_slice-steps.ensures.value)
    (subst (λ (n : ℕ). All (CanRun (view_model c.args.site.now.model.now) (length c.args.site.now.ranges.now) n) (map view_body_step c.in-Repeat.body.items)) (sym (ap (λ (m : Store). m.room) c.in_ok-number-in-Repeat.ensures.same)) can.1) in
    let part = ap (λ (l : List BodyStep). sizes (map view_body_step l)) c.as_slice-steps.ensures.value in
    let whole = ap (λ (s : BodyStep). size (view_body_step s)) c.in-Repeat.is ∙ size_repeat c.in-Repeat.count c.in-Repeat.body in
    let before = c.decreases in
    (omega (arith, part, whole, before), (within, ready))

pub run_begun-returns-in_ok-number-in-Repeat : goal.run_begun-returns-in_ok-number-in-Repeat
run_begun-returns-in_ok-number-in-Repeat g t c =
    subst (λ (s : BodyStep). DidTo (begun (place_of c.args.site.now c.args.turns.now) (view_body_step s)) (goes_on {A = Unit {0}}) c.args.memory.now c.run_turns.new.memory (g.T.Target.calls c.args.lane.now) (g.T.Target.calls c.run_turns.new.lane) (g.T.Target.faults c.args.lane.now) (g.T.Target.faults c.run_turns.new.lane) c.run_turns.result) (sym c.in-Repeat.is)
    (repeat_did (place_of c.args.site.now c.args.turns.now) c.in-Repeat.count c.in-Repeat.body c.in_ok-number-in-Repeat.number c.args.memory.now c.count_of.new.memory c.run_turns.new.memory (g.T.Target.calls c.args.lane.now) (g.T.Target.calls c.run_turns.new.lane) (g.T.Target.faults c.args.lane.now) (g.T.Target.faults c.run_turns.new.lane) c.run_turns.result c.in_ok-number-in-Repeat.ensures.value c.in_ok-number-in-Repeat.ensures.same (subst (λ (l : List BodyStep). DidTo (turns_of (place_of c.args.site.now c.args.turns.now) (map view_body_step l) 0 c.in_ok-number-in-Repeat.number) (goes_on {A = Unit {0}}) c.count_of.new.memory c.run_turns.new.memory (g.T.Target.calls c.args.lane.now) (g.T.Target.calls c.run_turns.new.lane) (g.T.Target.faults c.args.lane.now) (g.T.Target.faults c.run_turns.new.lane) c.run_turns.result) c.as_slice-steps.ensures.value c.run_turns.ensures))

pub run_step-returns-in_err-tick : goal.run_step-returns-in_err-tick
run_step-returns-in_err-tick g t c =
    let p = err_from_is_err_and c.from_residual.result c.from_residual.ensures.1 in
    rw (p.1, p.2) (step_unticked (place_of c.args.site.now c.args.turns.now) (view_body_step c.args.step.now) c.args.memory.now c.tick.new.self (g.T.Target.calls c.args.lane.now) (g.T.Target.faults c.args.lane.now) c.in_err-tick.field-0.0 c.in_err-tick.ensures)

pub run_step-returns : goal.run_step-returns
run_step-returns g t c =
    step_did (place_of c.args.site.now c.args.turns.now) (view_body_step c.args.step.now) c.args.memory.now c.tick.new.self c.run_begun.new.memory (g.T.Target.calls c.args.lane.now) (g.T.Target.calls c.run_begun.new.lane) (g.T.Target.faults c.args.lane.now) (g.T.Target.faults c.run_begun.new.lane) c.run_begun.result c.in_ok-tick.ensures c.run_begun.ensures

pub run_steps-run_step-requires : goal.run_steps-run_step-requires
run_steps-run_step-requires g t c κs within =
    let ready : CanRun (view_model c.args.site.now.model.now) (length c.args.site.now.ranges.now) c.loop-step.memory.room (view_body_step c.step-item.result) =
    subst (λ (n : ℕ). CanRun (view_model c.args.site.now.model.now) (length c.args.site.now.ranges.now) n (view_body_step c.step-item.result)) (sym c.loop-step.invariant.made.room)
    (all_drop_at (CanRun (view_model c.args.site.now.model.now) (length c.args.site.now.ranges.now) c.args.memory.now.room) view_body_step c.args.steps.now c.loop-step.step-index c.step-item.result c.loop-step-test.true c.step-item.is c.requires) in
    let item = item_size c.args.steps.now c.loop-step.step-index c.step-item.result c.loop-step-test.true c.step-item.is in
    let before = c.decreases in
    (omega (arith, item, before), (within, ready))

pub run_steps-returns-in_err-run_step : goal.run_steps-returns-in_err-run_step
run_steps-returns-in_err-run_step g t c =
    let p = err_from_is_err_and c.from_residual.result c.from_residual.ensures.1 in
    rw (p.1, p.2) (stepping_stopped (place_of c.args.site.now c.args.turns.now) c.args.steps.now c.loop-step.step-index c.step-item.result c.loop-step-test.true c.step-item.is c.args.memory.now c.loop-step.memory (g.T.Target.calls c.args.lane.now) (g.T.Target.calls c.loop-step.lane) (g.T.Target.faults c.args.lane.now) (g.T.Target.faults c.loop-step.lane) c.loop-step.invariant c.run_step.new.memory (g.T.Target.calls c.run_step.new.lane) (g.T.Target.faults c.run_step.new.lane) c.in_err-run_step.field-0.0 c.in_err-run_step.ensures)

pub run_steps-loop-step-preserved : goal.run_steps-loop-step-preserved
run_steps-loop-step-preserved g t c =
    stepping_next (place_of c.args.site.now c.args.turns.now) c.args.steps.now c.loop-step.step-index c.step-item.result c.loop-step-test.true c.step-item.is c.args.memory.now c.loop-step.memory (g.T.Target.calls c.args.lane.now) (g.T.Target.calls c.loop-step.lane) (g.T.Target.faults c.args.lane.now) (g.T.Target.faults c.loop-step.lane) c.loop-step.invariant c.run_step.new.memory (g.T.Target.calls c.run_step.new.lane) (g.T.Target.faults c.run_step.new.lane) c.in_ok-run_step.ensures

pub run_turns-returns-in_err-tick : goal.run_turns-returns-in_err-tick
run_turns-returns-in_err-tick g t c =
    let p = err_from_is_err_and c.from_residual.result c.from_residual.ensures.1 in
    rw (p.1, p.2) (turning_unticked (place_of c.args.site.now c.args.turns.now) (map view_body_step c.args.body.now) c.args.count c.turns.index (before_one c.turns.left c.turns-test.true).0 c.args.memory.now c.turns.memory (g.T.Target.calls c.args.lane.now) (g.T.Target.calls c.turns.lane) (g.T.Target.faults c.args.lane.now) (g.T.Target.faults c.turns.lane) (subst (λ (n : ℕ). Turning (place_of c.args.site.now c.args.turns.now) (map view_body_step c.args.body.now) c.args.count c.turns.index n c.args.memory.now c.turns.memory (g.T.Target.calls c.args.lane.now) (g.T.Target.calls c.turns.lane) (g.T.Target.faults c.args.lane.now) (g.T.Target.faults c.turns.lane)) (before_one c.turns.left c.turns-test.true).1 c.turns.invariant.going) c.tick.new.self c.in_err-tick.field-0.0 c.in_err-tick.ensures)

pub run_turns-returns-in_err-run_steps : goal.run_turns-returns-in_err-run_steps
run_turns-returns-in_err-run_steps g t c =
    let p = err_from_is_err_and c.from_residual-in_err-run_steps.result c.from_residual-in_err-run_steps.ensures.1 in
    rw (p.1, p.2) (turning_stopped (place_of c.args.site.now c.args.turns.now) (map view_body_step c.args.body.now) c.args.count c.turns.index (before_one c.turns.left c.turns-test.true).0 c.args.memory.now c.turns.memory (g.T.Target.calls c.args.lane.now) (g.T.Target.calls c.turns.lane) (g.T.Target.faults c.args.lane.now) (g.T.Target.faults c.turns.lane) (subst (λ (n : ℕ). Turning (place_of c.args.site.now c.args.turns.now) (map view_body_step c.args.body.now) c.args.count c.turns.index n c.args.memory.now c.turns.memory (g.T.Target.calls c.args.lane.now) (g.T.Target.calls c.turns.lane) (g.T.Target.faults c.args.lane.now) (g.T.Target.faults c.turns.lane)) (before_one c.turns.left c.turns-test.true).1 c.turns.invariant.going) c.tick.new.self c.run_steps.new.memory (g.T.Target.calls c.run_steps.new.lane) (g.T.Target.faults c.run_steps.new.lane) c.in_err-run_steps.field-0.0 c.in_ok-tick.ensures c.in_err-run_steps.ensures)

pub run_turns-turns-preserved : goal.run_turns-turns-preserved
run_turns-turns-preserved g t c =
    let ticked = c.in_ok-tick.ensures in
    let counted = ap (λ (m : Store). m.count) ticked.1 in
    let index = c.turns.invariant.index in
    let going = turning_next (place_of c.args.site.now c.args.turns.now) (map view_body_step c.args.body.now) c.args.count c.turns.index (before_one c.turns.left c.turns-test.true).0 c.args.memory.now c.turns.memory (g.T.Target.calls c.args.lane.now) (g.T.Target.calls c.turns.lane) (g.T.Target.faults c.args.lane.now) (g.T.Target.faults c.turns.lane) (subst (λ (n : ℕ). Turning (place_of c.args.site.now c.args.turns.now) (map view_body_step c.args.body.now) c.args.count c.turns.index n c.args.memory.now c.turns.memory (g.T.Target.calls c.args.lane.now) (g.T.Target.calls c.turns.lane) (g.T.Target.faults c.args.lane.now) (g.T.Target.faults c.turns.lane)) (before_one c.turns.left c.turns-test.true).1 c.turns.invariant.going) c.tick.new.self c.run_steps.new.memory (g.T.Target.calls c.run_steps.new.lane) (g.T.Target.faults c.run_steps.new.lane) ticked c.in_ok-run_steps.ensures in
    let grows = c.in_ok-run_steps.ensures.made.grows in
    record {
      going = subst (λ (n : ℕ). Turning (place_of c.args.site.now c.args.turns.now) (map view_body_step c.args.body.now) c.args.count (c.turns.index + 1) n c.args.memory.now c.run_steps.new.memory (g.T.Target.calls c.args.lane.now) (g.T.Target.calls c.run_steps.new.lane) (g.T.Target.faults c.args.lane.now) (g.T.Target.faults c.run_steps.new.lane)) (less_one c.turns.left c.turns-test.true) going;
      index = omega (arith, counted, index, grows);
    }
