use Rattle.std.proofs.Common.{◌<◌, ◌≤◌, ℕ, length}
use Rattle.pst_tallies.specs.Tallies.{counts_in}
use Rattle.pst_static.specs.Taking.{CanBeTaken}
use Rattle.pst_static.proofs.order.least_in.Given as goal

abbrev pub invariant-loop-group : goal.invariant-loop-group
invariant-loop-group l = (g : ℕ) → l.first ≤ g → g < l.group → CanBeTaken l.plan (counts_in (length l.plan.groups) l.awaited) l.taken g → ⊥
