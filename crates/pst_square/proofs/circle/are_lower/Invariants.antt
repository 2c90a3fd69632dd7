use Rattle.std.proofs.Common.{◌<◌, ◌+◌, ℕ, get_or}
use Rattle.std.specs.Prelude.{IsBitSet}
use Rattle.pst_square.proofs.circle.are_lower.Given as goal

abbrev pub invariant-loop-k : goal.invariant-loop-k
invariant-loop-k l = (j : ℕ) → j < l.k → IsBitSet l.word j → get_or l.ranks (l.first + j) 0 < l.limit
