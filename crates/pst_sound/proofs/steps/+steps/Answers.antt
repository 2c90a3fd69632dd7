use Rattle.std.proofs.Common.{IsTrue, ◌↔◌, All, List, map, subst, sym}
use Rattle.pst_sound_parts.specs.Depth.{depth}
use Rattle.pst_model.specs.declared.activity.Step.{Step}
use Rattle.pst_model.specs.declared.activity.Branch.{Branch}
use Rattle.pst_model.specs.declared.activity.Arm.{Arm}
use Rattle.pst_model.specs.ModelView.{view_model, view_action, view_step, view_branch, view_arm}
use Rattle.pst_model.specs.SoundActivity.{IsSoundStep, EachStep, EachPart, EachOfBranch, EachOfArm}
use Rattle.pst_sound_parts.proofs.Pairs.{viewed_drop, refuted, kept}
use Rattle.pst_sound.proofs.StepLemmas.{parts_of_sequence, parts_of_parallel, parts_of_schedule, parts_of_joined, parts_of_select, parts_of_match}
use Rattle.pst_sound.proofs.steps.+steps.Goals as goal

pub are_sound_steps-returns-then-not-is_sound_whole : goal.are_sound_steps-returns-then-not-is_sound_whole
are_sound_steps-returns-then-not-is_sound_whole t c = refuted c.is_sound_whole.result c.if-not-is_sound_whole.true c.is_sound_whole.ensures c.loop-step.invariant (λ a. ((viewed_drop (EachStep (IsSoundStep (view_model c.args.model.now) (view_action c.args.action.now) c.args.handles.now) (depth c.args.repeats.now)) view_step c.args.steps.now c.loop-step.step-index c.step-item.result c.loop-step-test.true c.step-item.is).0 a).0)

pub are_sound_steps-loop-step-preserved : goal.are_sound_steps-loop-step-preserved
are_sound_steps-loop-step-preserved t c = kept c.is_sound_whole.result c.if-not-is_sound_whole.false c.is_sound_whole.ensures c.loop-step.invariant (viewed_drop (EachStep (IsSoundStep (view_model c.args.model.now) (view_action c.args.action.now) c.args.handles.now) (depth c.args.repeats.now)) view_step c.args.steps.now c.loop-step.step-index c.step-item.result c.loop-step-test.true c.step-item.is)

pub has_sound_branches-returns-then-not-is_sound_whole : goal.has_sound_branches-returns-then-not-is_sound_whole
has_sound_branches-returns-then-not-is_sound_whole t c = refuted c.is_sound_whole.result c.if-not-is_sound_whole.true c.is_sound_whole.ensures c.loop-branch.invariant (λ a. ((viewed_drop (EachOfBranch (IsSoundStep (view_model c.args.model.now) (view_action c.args.action.now) c.args.handles.now) (depth c.args.repeats.now)) view_branch c.args.branches.now c.loop-branch.branch-index c.branch-item.result c.loop-branch-test.true c.branch-item.is).0 a).0)

pub has_sound_branches-loop-branch-preserved : goal.has_sound_branches-loop-branch-preserved
has_sound_branches-loop-branch-preserved t c = kept c.is_sound_whole.result c.if-not-is_sound_whole.false c.is_sound_whole.ensures c.loop-branch.invariant (viewed_drop (EachOfBranch (IsSoundStep (view_model c.args.model.now) (view_action c.args.action.now) c.args.handles.now) (depth c.args.repeats.now)) view_branch c.args.branches.now c.loop-branch.branch-index c.branch-item.result c.loop-branch-test.true c.branch-item.is)

pub has_sound_arms-returns-then-not-is_sound_whole : goal.has_sound_arms-returns-then-not-is_sound_whole
has_sound_arms-returns-then-not-is_sound_whole t c = refuted c.is_sound_whole.result c.if-not-is_sound_whole.true c.is_sound_whole.ensures c.loop-arm.invariant (λ a. ((viewed_drop (EachOfArm (IsSoundStep (view_model c.args.model.now) (view_action c.args.action.now) c.args.handles.now) (depth c.args.repeats.now)) view_arm c.args.arms.now c.loop-arm.arm-index c.arm-item.result c.loop-arm-test.true c.arm-item.is).0 a).0)

pub has_sound_arms-loop-arm-preserved : goal.has_sound_arms-loop-arm-preserved
has_sound_arms-loop-arm-preserved t c = kept c.is_sound_whole.result c.if-not-is_sound_whole.false c.is_sound_whole.ensures c.loop-arm.invariant (viewed_drop (EachOfArm (IsSoundStep (view_model c.args.model.now) (view_action c.args.action.now) c.args.handles.now) (depth c.args.repeats.now)) view_arm c.args.arms.now c.loop-arm.arm-index c.arm-item.result c.loop-arm-test.true c.arm-item.is)

pub has_sound_parts-returns-in-Sequence : goal.has_sound_parts-returns-in-Sequence
has_sound_parts-returns-in-Sequence t c =
    let items = subst (λ (xs : List Step). IsTrue c.are_sound_steps.result ↔ All (EachStep (IsSoundStep (view_model c.args.model.now) (view_action c.args.action.now) c.args.handles.now) (depth c.args.repeats.now)) (map view_step xs)) c.as_slice.ensures.value c.are_sound_steps.ensures in
    subst (λ (s : Step). IsTrue c.are_sound_steps.result ↔ EachPart (IsSoundStep (view_model c.args.model.now) (view_action c.args.action.now) c.args.handles.now) (depth c.args.repeats.now) (view_step s)) (sym c.in-Sequence.is) (parts_of_sequence (IsSoundStep (view_model c.args.model.now) (view_action c.args.action.now) c.args.handles.now) (depth c.args.repeats.now) c.in-Sequence.steps (IsTrue c.are_sound_steps.result) items)

pub has_sound_parts-returns-in-Parallel : goal.has_sound_parts-returns-in-Parallel
has_sound_parts-returns-in-Parallel t c =
    let items = subst (λ (xs : List Step). IsTrue c.are_sound_steps-in-Parallel.result ↔ All (EachStep (IsSoundStep (view_model c.args.model.now) (view_action c.args.action.now) c.args.handles.now) (depth c.args.repeats.now)) (map view_step xs)) c.as_slice-in-Parallel.ensures.value c.are_sound_steps-in-Parallel.ensures in
    subst (λ (s : Step). IsTrue c.are_sound_steps-in-Parallel.result ↔ EachPart (IsSoundStep (view_model c.args.model.now) (view_action c.args.action.now) c.args.handles.now) (depth c.args.repeats.now) (view_step s)) (sym c.in-Parallel.is) (parts_of_parallel (IsSoundStep (view_model c.args.model.now) (view_action c.args.action.now) c.args.handles.now) (depth c.args.repeats.now) c.in-Parallel.steps (IsTrue c.are_sound_steps-in-Parallel.result) items)

pub has_sound_parts-returns-in-Schedule : goal.has_sound_parts-returns-in-Schedule
has_sound_parts-returns-in-Schedule t c =
    let items = subst (λ (xs : List Step). IsTrue c.are_sound_steps-in-Schedule.result ↔ All (EachStep (IsSoundStep (view_model c.args.model.now) (view_action c.args.action.now) c.args.handles.now) (depth c.args.repeats.now)) (map view_step xs)) c.as_slice-in-Schedule.ensures.value c.are_sound_steps-in-Schedule.ensures in
    subst (λ (s : Step). IsTrue c.are_sound_steps-in-Schedule.result ↔ EachPart (IsSoundStep (view_model c.args.model.now) (view_action c.args.action.now) c.args.handles.now) (depth c.args.repeats.now) (view_step s)) (sym c.in-Schedule.is) (parts_of_schedule (IsSoundStep (view_model c.args.model.now) (view_action c.args.action.now) c.args.handles.now) (depth c.args.repeats.now) c.in-Schedule.steps (IsTrue c.are_sound_steps-in-Schedule.result) items)

pub has_sound_parts-returns-in-Joined : goal.has_sound_parts-returns-in-Joined
has_sound_parts-returns-in-Joined t c =
    let items = subst (λ (xs : List Step). IsTrue c.are_sound_steps-in-Joined.result ↔ All (EachStep (IsSoundStep (view_model c.args.model.now) (view_action c.args.action.now) c.args.handles.now) (depth c.args.repeats.now)) (map view_step xs)) c.as_slice-in-Joined.ensures.value c.are_sound_steps-in-Joined.ensures in
    subst (λ (s : Step). IsTrue c.are_sound_steps-in-Joined.result ↔ EachPart (IsSoundStep (view_model c.args.model.now) (view_action c.args.action.now) c.args.handles.now) (depth c.args.repeats.now) (view_step s)) (sym c.in-Joined.is) (parts_of_joined (IsSoundStep (view_model c.args.model.now) (view_action c.args.action.now) c.args.handles.now) (depth c.args.repeats.now) c.in-Joined.parallel c.in-Joined.join c.in-Joined.steps (IsTrue c.are_sound_steps-in-Joined.result) items)

pub has_sound_parts-returns-in-Select : goal.has_sound_parts-returns-in-Select
has_sound_parts-returns-in-Select t c =
    let items = subst (λ (xs : List Branch). IsTrue c.has_sound_branches.result ↔ All (EachOfBranch (IsSoundStep (view_model c.args.model.now) (view_action c.args.action.now) c.args.handles.now) (depth c.args.repeats.now)) (map view_branch xs)) c.as_slice-in-Select.ensures.value c.has_sound_branches.ensures in
    subst (λ (s : Step). IsTrue c.has_sound_branches.result ↔ EachPart (IsSoundStep (view_model c.args.model.now) (view_action c.args.action.now) c.args.handles.now) (depth c.args.repeats.now) (view_step s)) (sym c.in-Select.is) (parts_of_select (IsSoundStep (view_model c.args.model.now) (view_action c.args.action.now) c.args.handles.now) (depth c.args.repeats.now) c.in-Select.branches (IsTrue c.has_sound_branches.result) items)

pub has_sound_parts-returns-then-has_sound_arms : goal.has_sound_parts-returns-then-has_sound_arms
has_sound_parts-returns-then-has_sound_arms t c =
    let items = subst (λ (xs : List Arm). IsTrue c.has_sound_arms.result ↔ All (EachOfArm (IsSoundStep (view_model c.args.model.now) (view_action c.args.action.now) c.args.handles.now) (depth c.args.repeats.now)) (map view_arm xs)) c.as_slice-in-Match.ensures.value c.has_sound_arms.ensures in
    subst (λ (s : Step). IsTrue c.is_sound_other-then-has_sound_arms.result ↔ EachPart (IsSoundStep (view_model c.args.model.now) (view_action c.args.action.now) c.args.handles.now) (depth c.args.repeats.now) (view_step s)) (sym c.in-Match.is) (parts_of_match (IsSoundStep (view_model c.args.model.now) (view_action c.args.action.now) c.args.handles.now) (depth c.args.repeats.now) c.in-Match.value c.in-Match.arms c.in-Match.other (IsTrue c.is_sound_other-then-has_sound_arms.result) (λ h. (items.0 c.if-has_sound_arms.true, c.is_sound_other-then-has_sound_arms.ensures.0 h), λ h. c.is_sound_other-then-has_sound_arms.ensures.1 h.1))

pub has_sound_parts-returns-else-has_sound_arms : goal.has_sound_parts-returns-else-has_sound_arms
has_sound_parts-returns-else-has_sound_arms t c =
    let items = subst (λ (xs : List Arm). IsTrue c.has_sound_arms.result ↔ All (EachOfArm (IsSoundStep (view_model c.args.model.now) (view_action c.args.action.now) c.args.handles.now) (depth c.args.repeats.now)) (map view_arm xs)) c.as_slice-in-Match.ensures.value c.has_sound_arms.ensures in
    subst (λ (s : Step). IsTrue c.has_sound_arms.result ↔ EachPart (IsSoundStep (view_model c.args.model.now) (view_action c.args.action.now) c.args.handles.now) (depth c.args.repeats.now) (view_step s)) (sym c.in-Match.is) (parts_of_match (IsSoundStep (view_model c.args.model.now) (view_action c.args.action.now) c.args.handles.now) (depth c.args.repeats.now) c.in-Match.value c.in-Match.arms c.in-Match.other (IsTrue c.has_sound_arms.result) (λ h. let f = c.if-has_sound_arms.false in absurd cc, λ h. items.1 h.0))
