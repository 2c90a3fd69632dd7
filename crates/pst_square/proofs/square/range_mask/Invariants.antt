use Rattle.std.proofs.Common.{◌↔◌, ◌<◌, ℕ}
use Rattle.std.specs.Prelude.{IsBitSet}
use Rattle.pst_square.specs.Squares.{IsWithin}
use Rattle.pst_square.proofs.square.range_mask.Given as goal

abbrev pub invariant-loop-k : goal.invariant-loop-k
invariant-loop-k l = (k : ℕ) → IsBitSet l.mask k ↔ (k < l.k) × IsWithin l.first l.from l.to k
