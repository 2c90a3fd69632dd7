use Rattle.std.proofs.Common.{◌<◌, ℕ}
use Rattle.pst_check.specs.Tests.{IsInTheWay}
use Rattle.pst_check.proofs.starts.has_in_the_way.Given as goal

abbrev pub invariant-loop-a : goal.invariant-loop-a
invariant-loop-a l = (a : ℕ) → a < l.a → IsInTheWay l.plan l.past l.b a → ⊥
