use Rattle.std.proofs.Common.{◌<◌, ℕ, get_or}
use Rattle.pst_square.specs.Spread.{IsSpreading, IsShared}
use Rattle.pst_square.proofs.spreading.share_row.Given as goal

abbrev pub invariant-loop-i : goal.invariant-loop-i
invariant-loop-i l = record {
  spreading : IsSpreading l.initial.square l.square l.groups l.a;
  shared : (i : ℕ) → i < l.i → IsShared l.initial.square l.square l.groups l.a (get_or l.followers i 0);
}
