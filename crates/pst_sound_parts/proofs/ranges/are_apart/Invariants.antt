use Rattle.std.proofs.Common.{◌↔◌, AllPairs, drop}
use Rattle.pst_model.specs.SoundActivity.{AreApart}
use Rattle.pst_sound_parts.proofs.ranges.are_apart.Given as goal

-- all are apart where those left are
abbrev pub invariant-loop-index : goal.invariant-loop-index
invariant-loop-index l = AllPairs AreApart (drop l.index l.spans) ↔ AllPairs AreApart l.spans
