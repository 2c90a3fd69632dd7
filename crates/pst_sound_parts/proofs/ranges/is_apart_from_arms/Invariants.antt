use Rattle.std.proofs.Common.{◌↔◌, All, drop, map}
use Rattle.std.specs.List.{flat_map}
use Rattle.pst_model.specs.ActivityTree.{spans_of}
use Rattle.pst_model.specs.ModelView.{view_arm}
use Rattle.pst_model.specs.SoundActivity.{AreApart}
use Rattle.pst_sound_parts.proofs.ranges.is_apart_from_arms.Given as goal

abbrev pub invariant-loop-arm : goal.invariant-loop-arm
invariant-loop-arm l = All (AreApart l.one) (flat_map spans_of (map view_arm (drop l.arm-index l.arms))) ↔ All (AreApart l.one) (flat_map spans_of (map view_arm l.arms))
