use Rattle.std.proofs.Common.{◌<◌, ℕ}
use Rattle.pst_square.specs.Circles.{LeadsLower}
use Rattle.pst_square.proofs.circle.descend.Given as goal

abbrev pub invariant-loop-a : goal.invariant-loop-a
invariant-loop-a l = (b : ℕ) → b < l.a → LeadsLower l.rows l.ranks l.least b
