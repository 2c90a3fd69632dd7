use Rattle.std.proofs.Common.{◌≡◌, map, drop}
use Rattle.std.specs.List.{list_any}
use Rattle.pst_model.specs.ModelView.{view_step, view_branch, view_arm}
use Rattle.pst_refusals.specs.Inlines.{has_inline, branch_has, arm_has}
use Rattle.pst_refusals.proofs.inlines.+inlines.Given as goal

abbrev pub invariant-steps_have-loop-step : goal.invariant-steps_have-loop-step
invariant-steps_have-loop-step l = list_any (has_inline l.sought) (map view_step (drop l.step-index l.steps)) ≡ list_any (has_inline l.sought) (map view_step l.steps)

abbrev pub invariant-branches_have-loop-branch : goal.invariant-branches_have-loop-branch
invariant-branches_have-loop-branch l = list_any (branch_has l.sought) (map view_branch (drop l.branch-index l.branches)) ≡ list_any (branch_has l.sought) (map view_branch l.branches)

abbrev pub invariant-arms_have-loop-arm : goal.invariant-arms_have-loop-arm
invariant-arms_have-loop-arm l = list_any (arm_has l.sought) (map view_arm (drop l.arm-index l.arms)) ≡ list_any (arm_has l.sought) (map view_arm l.arms)
