use Rattle.std.proofs.Common.{◌≡◌, ◌++◌, map, drop}
use Rattle.std.specs.List.{flat_map}
use Rattle.pst_model.specs.ModelView.{view_step, view_branch, view_arm}
use Rattle.pst_new_refusals.specs.Named.{named_in, named_in_branch, named_in_arm}
use Rattle.pst_new_refusals.proofs.named.+names.Given as goal

abbrev pub invariant-add_steps-loop-step : goal.invariant-add_steps-loop-step
invariant-add_steps-loop-step l = l.found.items ++ flat_map named_in (map view_step (drop l.step-index l.steps)) ≡ l.initial.found.items ++ flat_map named_in (map view_step l.steps)

abbrev pub invariant-add_branches-loop-branch : goal.invariant-add_branches-loop-branch
invariant-add_branches-loop-branch l =
    l.found.items ++ flat_map named_in_branch (map view_branch (drop l.branch-index l.branches)) ≡ l.initial.found.items ++ flat_map named_in_branch (map view_branch l.branches)

abbrev pub invariant-add_arms-loop-arm : goal.invariant-add_arms-loop-arm
invariant-add_arms-loop-arm l = l.found.items ++ flat_map named_in_arm (map view_arm (drop l.arm-index l.arms)) ≡ l.initial.found.items ++ flat_map named_in_arm (map view_arm l.arms)
