use Rattle.std.proofs.Common.{All, List, map, subst, sym, arith}
use Rattle.pst_model.specs.declared.body.BodyStep.{BodyStep}
use Rattle.pst_model.specs.ModelView.{view_body_step}
use Rattle.pst_body.specs.Ready.{HasRoomToRun}
use Rattle.pst_body.proofs.Rows.{room_of_if, room_of_repeat, all_from}
use Rattle.pst_body.proofs.need.+slots.Goals as goal

pub most_in_step-returns-in-If : goal.most_in_step-returns-in-If
most_in_step-returns-in-If t c = λ room fits.
    subst (λ (s : BodyStep). HasRoomToRun room (view_body_step s)) (sym c.in-If.is)
    (room_of_if room c.in-If.condition c.in-If.yes c.in-If.no (omega arith)
    (subst (λ (xs : List BodyStep). All (HasRoomToRun room) (map view_body_step xs)) c.as_slice-in-If.ensures.value (c.most_in_steps-held.ensures room (omega arith)))
    (subst (λ (xs : List BodyStep). All (HasRoomToRun room) (map view_body_step xs)) c.as_slice-in-If-2.ensures.value (c.most_in_steps-failed.ensures room (omega arith))))

pub most_in_step-returns-in-Repeat : goal.most_in_step-returns-in-Repeat
most_in_step-returns-in-Repeat t c = λ room fits.
    subst (λ (s : BodyStep). HasRoomToRun room (view_body_step s)) (sym c.in-Repeat.is)
    (room_of_repeat room c.in-Repeat.count c.in-Repeat.body (omega arith)
    (subst (λ (xs : List BodyStep). All (HasRoomToRun room) (map view_body_step xs)) c.as_slice-in-Repeat.ensures.value (c.most_in_steps-turned.ensures room (omega arith))))

pub most_in_steps-loop-step-preserved : goal.most_in_steps-loop-step-preserved
most_in_steps-loop-step-preserved t c = λ room fits rest. c.loop-step.invariant room (omega arith)
    (all_from (HasRoomToRun room) view_body_step c.args.steps.now c.loop-step.step-index c.step-item.result c.loop-step-test.true c.step-item.is (c.most_in_step.ensures room (omega arith)) rest)
