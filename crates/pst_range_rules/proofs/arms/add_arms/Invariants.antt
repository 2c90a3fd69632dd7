use Rattle.std.proofs.Common.{◌≡◌, ◌++◌, drop, map}
use Rattle.pst_ast.specs.ActivityView.{view_arm}
use Rattle.pst_ast.specs.Uses.{arm_label}
use Rattle.pst_type_rules.specs.TypeRules.{ranges_of_arms}
use Rattle.pst_range_rules.specs.Facts.{constant_at}
use Rattle.pst_range_rules.specs.Spans.{spans_of}
use Rattle.pst_range_rules.proofs.arms.add_arms.Given as goal

abbrev pub invariant-loop-arm : goal.invariant-loop-arm
invariant-loop-arm l =
    l.found.items ++ spans_of (constant_at l.facts l.at) (ranges_of_arms (map (λ a. arm_label (view_arm a)) (drop l.arm-index l.arms)))
    ≡ l.initial.found.items ++ spans_of (constant_at l.facts l.at) (ranges_of_arms (map (λ a. arm_label (view_arm a)) l.arms))
