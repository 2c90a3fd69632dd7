use Rattle.std.proofs.Common.{◌+◌, IsTrue, ◌↔◌, All, List, map, subst, sym}
use Rattle.pst_sound_parts.specs.Depth.{depth}
use Rattle.pst_model.specs.declared.body.BodyStep.{BodyStep}
use Rattle.pst_model.specs.ModelView.{view_model, view_action, view_body_step}
use Rattle.pst_model.specs.SoundBody.{IsSoundBodyStep, EachBodyStep, EachBodyPart}
use Rattle.pst_sound_parts.proofs.Pairs.{viewed_drop, refuted, kept}
use Rattle.pst_sound_parts.proofs.BodyRows.{parts_of_if, parts_of_repeat}
use Rattle.pst_sound_parts.proofs.bodies.+steps.Goals as goal

pub are_sound_steps-returns-then-not-is_sound_whole : goal.are_sound_steps-returns-then-not-is_sound_whole
are_sound_steps-returns-then-not-is_sound_whole t c = refuted c.is_sound_whole.result c.if-not-is_sound_whole.true c.is_sound_whole.ensures c.loop-step.invariant (λ a. ((viewed_drop (EachBodyStep (IsSoundBodyStep (view_model c.args.model.now) (view_action c.args.action.now) c.args.locals) (depth c.args.repeats.now)) view_body_step c.args.steps.now c.loop-step.step-index c.step-item.result c.loop-step-test.true c.step-item.is).0 a).0)

pub are_sound_steps-loop-step-preserved : goal.are_sound_steps-loop-step-preserved
are_sound_steps-loop-step-preserved t c = kept c.is_sound_whole.result c.if-not-is_sound_whole.false c.is_sound_whole.ensures c.loop-step.invariant (viewed_drop (EachBodyStep (IsSoundBodyStep (view_model c.args.model.now) (view_action c.args.action.now) c.args.locals) (depth c.args.repeats.now)) view_body_step c.args.steps.now c.loop-step.step-index c.step-item.result c.loop-step-test.true c.step-item.is)

pub has_sound_parts-returns-then-are_sound_steps : goal.has_sound_parts-returns-then-are_sound_steps
has_sound_parts-returns-then-are_sound_steps t c =
    let first = subst (λ (xs : List BodyStep). IsTrue c.are_sound_steps.result ↔ All (EachBodyStep (IsSoundBodyStep (view_model c.args.model.now) (view_action c.args.action.now) c.args.locals) (depth c.args.repeats.now)) (map view_body_step xs)) c.as_slice.ensures.value c.are_sound_steps.ensures in
    let second = subst (λ (xs : List BodyStep). IsTrue c.are_sound_steps-then-are_sound_steps.result ↔ All (EachBodyStep (IsSoundBodyStep (view_model c.args.model.now) (view_action c.args.action.now) c.args.locals) (depth c.args.repeats.now)) (map view_body_step xs)) c.as_slice-then-are_sound_steps.ensures.value c.are_sound_steps-then-are_sound_steps.ensures in
    subst (λ (s : BodyStep). IsTrue c.are_sound_steps-then-are_sound_steps.result ↔ EachBodyPart (IsSoundBodyStep (view_model c.args.model.now) (view_action c.args.action.now) c.args.locals) (depth c.args.repeats.now) (view_body_step s)) (sym c.in-If.is) (parts_of_if (IsSoundBodyStep (view_model c.args.model.now) (view_action c.args.action.now) c.args.locals) (depth c.args.repeats.now) c.in-If.condition c.in-If.yes c.in-If.no (IsTrue c.are_sound_steps-then-are_sound_steps.result) (λ h. (first.0 c.if-are_sound_steps.true, second.0 h), λ h. second.1 h.1))

pub has_sound_parts-returns-else-are_sound_steps : goal.has_sound_parts-returns-else-are_sound_steps
has_sound_parts-returns-else-are_sound_steps t c =
    let first = subst (λ (xs : List BodyStep). IsTrue c.are_sound_steps.result ↔ All (EachBodyStep (IsSoundBodyStep (view_model c.args.model.now) (view_action c.args.action.now) c.args.locals) (depth c.args.repeats.now)) (map view_body_step xs)) c.as_slice.ensures.value c.are_sound_steps.ensures in
    subst (λ (s : BodyStep). IsTrue c.are_sound_steps.result ↔ EachBodyPart (IsSoundBodyStep (view_model c.args.model.now) (view_action c.args.action.now) c.args.locals) (depth c.args.repeats.now) (view_body_step s)) (sym c.in-If.is) (parts_of_if (IsSoundBodyStep (view_model c.args.model.now) (view_action c.args.action.now) c.args.locals) (depth c.args.repeats.now) c.in-If.condition c.in-If.yes c.in-If.no (IsTrue c.are_sound_steps.result) (λ h. let f = c.if-are_sound_steps.false in absurd cc, λ h. first.1 h.0))

pub has_sound_parts-returns-in-Repeat : goal.has_sound_parts-returns-in-Repeat
has_sound_parts-returns-in-Repeat t c =
    let turns = subst (λ (xs : List BodyStep). IsTrue c.are_sound_steps-in-Repeat.result ↔ All (EachBodyStep (IsSoundBodyStep (view_model c.args.model.now) (view_action c.args.action.now) c.args.locals) ((depth c.args.repeats.now) + 1)) (map view_body_step xs)) c.as_slice-in-Repeat.ensures.value c.are_sound_steps-in-Repeat.ensures in
    subst (λ (s : BodyStep). IsTrue c.are_sound_steps-in-Repeat.result ↔ EachBodyPart (IsSoundBodyStep (view_model c.args.model.now) (view_action c.args.action.now) c.args.locals) (depth c.args.repeats.now) (view_body_step s)) (sym c.in-Repeat.is) (parts_of_repeat (IsSoundBodyStep (view_model c.args.model.now) (view_action c.args.action.now) c.args.locals) (depth c.args.repeats.now) c.in-Repeat.count c.in-Repeat.body (IsTrue c.are_sound_steps-in-Repeat.result) turns)
