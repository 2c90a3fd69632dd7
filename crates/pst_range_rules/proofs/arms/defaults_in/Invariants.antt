use Rattle.std.proofs.Common.{◌≡◌, ◌∷◌, drop, map}
use Rattle.pst_ast.specs.ActivityView.{view_arm}
use Rattle.pst_ast.specs.Uses.{arm_label}
use Rattle.pst_range_rules.specs.Meetings.{defaults_from, defaults_in}
use Rattle.pst_range_rules.proofs.arms.defaults_in.Given as goal

abbrev pub invariant-loop-arm : goal.invariant-loop-arm
invariant-loop-arm l =
    defaults_from l.seen (map (λ a. arm_label (view_arm a)) (drop l.arm-index l.rest)) l.found
    ≡ defaults_in (arm_label (view_arm l.first) ∷ map (λ a. arm_label (view_arm a)) l.rest)
