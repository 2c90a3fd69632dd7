use Rattle.std.proofs.Common.{◌≡◌, drop, map}
use Rattle.std.specs.List.{flat_map}
use Rattle.pst_model.specs.ModelView.{view_step, view_branch, view_arm}
use Rattle.pst_model.specs.Traversals.{traversals, traversals_of_branch, traversals_of_arm}
use Rattle.pst_sound_parts.specs.Seen.{seen_of, joined}
use Rattle.pst_sound_parts.proofs.traversals.+seen.Given as goal

abbrev pub invariant-seen_in_steps-loop-step : goal.invariant-seen_in_steps-loop-step
invariant-seen_in_steps-loop-step l = joined l.seen (seen_of (flat_map (traversals l.handle l.within) (map view_step (drop l.step-index l.steps)))) ≡ seen_of (flat_map (traversals l.handle l.within) (map view_step l.steps))

abbrev pub invariant-seen_in_branches-loop-branch : goal.invariant-seen_in_branches-loop-branch
invariant-seen_in_branches-loop-branch l = joined l.seen (seen_of (flat_map (traversals_of_branch l.handle) (map view_branch (drop l.branch-index l.branches)))) ≡ seen_of (flat_map (traversals_of_branch l.handle) (map view_branch l.branches))

abbrev pub invariant-seen_in_arms-loop-arm : goal.invariant-seen_in_arms-loop-arm
invariant-seen_in_arms-loop-arm l = joined l.seen (seen_of (flat_map (traversals_of_arm l.handle) (map view_arm (drop l.arm-index l.arms)))) ≡ seen_of (flat_map (traversals_of_arm l.handle) (map view_arm l.arms))
