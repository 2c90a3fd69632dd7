use Rattle.std.proofs.Common.{◌<◌, ◌↔◌, length}
use Rattle.pst_model.specs.Preorder.{LiesUnder}
use Rattle.pst_sound_parts.proofs.preorder.lies_under.Given as goal

abbrev pub decreases-loop-at : goal.decreases-loop-at
decreases-loop-at l = l.at

abbrev pub invariant-loop-at : goal.invariant-loop-at
invariant-loop-at l = record {
  within : l.at < length l.parts;
  same : LiesUnder l.parts l.top l.at ↔ LiesUnder l.parts l.top l.fn.n;
}
