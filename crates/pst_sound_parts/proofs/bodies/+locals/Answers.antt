use Rattle.std.proofs.Common.{◌+◌, ℕ, List, Option, drop, map, ap, sym, ◌∙◌}
use Rattle.std.specs.List.{flat_map}
use Rattle.pst_model.specs.declared.body.BodyStep.{BodyStep}
use Rattle.pst_model.specs.ModelView.{view_body_step}
use Rattle.pst_model.specs.SoundBody.{locals_in}
use Rattle.pst_sound_parts.specs.Numbered.{behind_locals}
use Rattle.pst_sound_parts.proofs.Pairs.{drop_read}
use Rattle.pst_sound_parts.proofs.BodyRows.{behind_append, behind_if, locals_in_repeat}
use Rattle.pst_sound_parts.proofs.bodies.+locals.Goals as goal

pub behind_step-returns-in-If : goal.behind_step-returns-in-If
behind_step-returns-in-If t c =
    c.behind_steps-in-If.ensures
    ∙ ap (λ (xs : List BodyStep). behind_locals c.behind_steps.result (flat_map locals_in (map view_body_step xs))) c.as_slice.ensures.value
    ∙ ap (λ (n : Option ℕ). behind_locals n (flat_map locals_in (map view_body_step c.in-If.no.items))) (c.behind_steps.ensures ∙ ap (λ (xs : List BodyStep). behind_locals c.args.next (flat_map locals_in (map view_body_step xs))) c.as_slice-in-If.ensures.value)
    ∙ sym (ap (λ (s : BodyStep). behind_locals c.args.next (locals_in (view_body_step s))) c.in-If.is ∙ behind_if c.args.next c.in-If.condition c.in-If.yes c.in-If.no)

pub behind_step-returns-in-Repeat : goal.behind_step-returns-in-Repeat
behind_step-returns-in-Repeat t c =
    c.behind_steps-in-Repeat.ensures
    ∙ ap (λ (xs : List BodyStep). behind_locals c.args.next (flat_map locals_in (map view_body_step xs))) c.as_slice-in-Repeat.ensures.value
    ∙ sym (ap (λ (s : BodyStep). behind_locals c.args.next (locals_in (view_body_step s))) c.in-Repeat.is ∙ ap (behind_locals c.args.next) (locals_in_repeat c.in-Repeat.count c.in-Repeat.body))

pub behind_steps-loop-step-preserved : goal.behind_steps-loop-step-preserved
behind_steps-loop-step-preserved t c =
    ap (λ (n : Option ℕ). behind_locals n (flat_map locals_in (map view_body_step (drop (c.loop-step.step-index + 1) c.args.steps.now)))) c.behind_step-last.ensures
    ∙ sym (behind_append c.loop-step.last (locals_in (view_body_step c.step-item.result)) (flat_map locals_in (map view_body_step (drop (c.loop-step.step-index + 1) c.args.steps.now))))
    ∙ sym (ap (λ (xs : List BodyStep). behind_locals c.loop-step.last (flat_map locals_in (map view_body_step xs))) (drop_read c.args.steps.now c.loop-step.step-index c.step-item.result c.loop-step-test.true c.step-item.is))
    ∙ c.loop-step.invariant
