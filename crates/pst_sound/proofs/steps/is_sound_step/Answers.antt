use Rattle.std.proofs.Common.{◌≤◌, IsTrue, ◌↔◌, All, AllPairs, List, length, map, subst, sym}
use Rattle.std.specs.List.{flat_map}
use Rattle.pst_sound_parts.specs.Depth.{depth}
use Rattle.pst_model.specs.Limits.{most_branches}
use Rattle.pst_model.specs.declared.activity.Step.{Step}
use Rattle.pst_model.specs.declared.activity.Branch.{Branch}
use Rattle.pst_model.specs.declared.activity.Arm.{Arm}
use Rattle.pst_model.specs.ActivityTree.{spans_of}
use Rattle.pst_model.specs.ConstraintTree.{view_constraint}
use Rattle.pst_model.specs.ModelView.{view_model, view_action, view_step, view_branch, view_arm}
use Rattle.pst_model.specs.SoundActivity.{IsSoundStep, IsSoundBranch, IsCondition, IsJoin, AreApart}
use Rattle.pst_sound.proofs.StepLemmas.{sound_joined, sound_select, sound_match}
use Rattle.pst_sound.proofs.steps.is_sound_step.Goals as goal

pub returns-in-Joined : goal.returns-in-Joined
returns-in-Joined c =
    let items = subst (λ (xs : List Step). IsTrue c.is_sound_block.result ↔ (length xs ≤ most_branches) × IsJoin c.in-Joined.join (length xs)) c.as_slice-in-Joined.ensures.value c.is_sound_block.ensures in
    subst (λ (s : Step). IsTrue c.is_sound_block.result ↔ IsSoundStep (view_model c.args.model.now) (view_action c.args.action.now) c.args.handles.now (depth c.args.repeats.now) (view_step s)) (sym c.in-Joined.is)
    (sound_joined (view_model c.args.model.now) (view_action c.args.action.now) c.args.handles.now (depth c.args.repeats.now) c.in-Joined.parallel c.in-Joined.join c.in-Joined.steps (IsTrue c.is_sound_block.result) items)

pub returns-in-Select : goal.returns-in-Select
returns-in-Select c =
    let items = subst (λ (xs : List Branch). IsTrue c.are_sound_branches.result ↔ All (IsSoundBranch (view_action c.args.action.now) (depth c.args.repeats.now)) (map view_branch xs)) c.as_slice-in-Select.ensures.value c.are_sound_branches.ensures in
    subst (λ (s : Step). IsTrue c.are_sound_branches.result ↔ IsSoundStep (view_model c.args.model.now) (view_action c.args.action.now) c.args.handles.now (depth c.args.repeats.now) (view_step s)) (sym c.in-Select.is)
    (sound_select (view_model c.args.model.now) (view_action c.args.action.now) c.args.handles.now (depth c.args.repeats.now) c.in-Select.branches (IsTrue c.are_sound_branches.result) items)

pub returns-in-Match : goal.returns-in-Match
returns-in-Match c =
    let items = subst (λ (xs : List Arm). IsTrue c.is_sound_match.result ↔ IsCondition (view_action c.args.action.now) (depth c.args.repeats.now) (view_constraint c.in-Match.value) × AllPairs AreApart (flat_map spans_of (map view_arm xs))) c.as_slice-in-Match.ensures.value c.is_sound_match.ensures in
    subst (λ (s : Step). IsTrue c.is_sound_match.result ↔ IsSoundStep (view_model c.args.model.now) (view_action c.args.action.now) c.args.handles.now (depth c.args.repeats.now) (view_step s)) (sym c.in-Match.is)
    (sound_match (view_model c.args.model.now) (view_action c.args.action.now) c.args.handles.now (depth c.args.repeats.now) c.in-Match.value c.in-Match.arms c.in-Match.other (IsTrue c.is_sound_match.result) items)
