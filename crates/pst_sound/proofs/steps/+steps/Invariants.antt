use Rattle.std.proofs.Common.{◌↔◌, All, drop, map}
use Rattle.pst_sound_parts.specs.Depth.{depth}
use Rattle.pst_model.specs.ModelView.{view_model, view_action, view_step, view_branch, view_arm}
use Rattle.pst_model.specs.SoundActivity.{IsSoundStep, EachStep, EachOfBranch, EachOfArm}
use Rattle.pst_sound.proofs.steps.+steps.Given as goal

-- all are sound where those left are
abbrev pub invariant-are_sound_steps-loop-step : goal.invariant-are_sound_steps-loop-step
invariant-are_sound_steps-loop-step l = All (EachStep (IsSoundStep (view_model l.model) (view_action l.action) l.handles) (depth l.repeats)) (map view_step (drop l.step-index l.steps)) ↔ All (EachStep (IsSoundStep (view_model l.model) (view_action l.action) l.handles) (depth l.repeats)) (map view_step l.steps)

abbrev pub invariant-has_sound_branches-loop-branch : goal.invariant-has_sound_branches-loop-branch
invariant-has_sound_branches-loop-branch l = All (EachOfBranch (IsSoundStep (view_model l.model) (view_action l.action) l.handles) (depth l.repeats)) (map view_branch (drop l.branch-index l.branches)) ↔ All (EachOfBranch (IsSoundStep (view_model l.model) (view_action l.action) l.handles) (depth l.repeats)) (map view_branch l.branches)

abbrev pub invariant-has_sound_arms-loop-arm : goal.invariant-has_sound_arms-loop-arm
invariant-has_sound_arms-loop-arm l = All (EachOfArm (IsSoundStep (view_model l.model) (view_action l.action) l.handles) (depth l.repeats)) (map view_arm (drop l.arm-index l.arms)) ↔ All (EachOfArm (IsSoundStep (view_model l.model) (view_action l.action) l.handles) (depth l.repeats)) (map view_arm l.arms)
