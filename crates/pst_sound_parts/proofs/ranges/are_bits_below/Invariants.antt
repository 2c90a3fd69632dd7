use Rattle.std.proofs.Common.{ℕ, ◌≤◌, ◌<◌, IsBitSet}
use Rattle.pst_sound_parts.proofs.ranges.are_bits_below.Given as goal

abbrev pub invariant-loop-k : goal.invariant-loop-k
invariant-loop-k l = (k : ℕ) → l.n ≤ k → k < l.k → IsBitSet l.bits k → ⊥
