use Rattle.std.proofs.Common.{◌≡◌, drop, map}
use Rattle.std.specs.List.{enumerate_from, find}
use Rattle.pst_model.specs.ModelView.{view_arm}
use Rattle.pst_legal.specs.Menus.{is_in_arm}
use Rattle.pst_shape_parts.proofs.branches.arm_with.Given as goal

abbrev pub invariant-loop-arm : goal.invariant-loop-arm
invariant-loop-arm l = (l.number ≡ l.arm-index) × (find (is_in_arm l.value) (enumerate_from l.arm-index (map view_arm (drop l.arm-index l.arms))) ≡ find (is_in_arm l.value) (enumerate_from 0 (map view_arm l.arms)))
