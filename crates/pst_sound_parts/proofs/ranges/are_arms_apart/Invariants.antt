use Rattle.std.proofs.Common.{◌↔◌, AllPairs, drop, map}
use Rattle.std.specs.List.{flat_map}
use Rattle.pst_model.specs.ActivityTree.{spans_of}
use Rattle.pst_model.specs.ModelView.{view_arm}
use Rattle.pst_model.specs.SoundActivity.{AreApart}
use Rattle.pst_sound_parts.proofs.ranges.are_arms_apart.Given as goal

-- all are apart where those left are
abbrev pub invariant-loop-index : goal.invariant-loop-index
invariant-loop-index l = AllPairs AreApart (flat_map spans_of (map view_arm (drop l.index l.arms))) ↔ AllPairs AreApart (flat_map spans_of (map view_arm l.arms))
