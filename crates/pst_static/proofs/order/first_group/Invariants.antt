use Rattle.std.proofs.Common.{◌<◌, ◌*◌, ℕ, length}
use Rattle.pst_tallies.specs.Tallies.{counts_in}
use Rattle.pst_static.specs.Taking.{AreHinted, CanBeTaken}
use Rattle.pst_static.proofs.order.first_group.Given as goal

abbrev pub invariant-loop-place : goal.invariant-loop-place
invariant-loop-place l = record {
  hinted : AreHinted l.plan (counts_in (length l.plan.groups) l.awaited) l.taken l.hints;
  none : (g : ℕ) → g < l.place * 64 → g < length l.plan.groups → CanBeTaken l.plan (counts_in (length l.plan.groups) l.awaited) l.taken g → ⊥;
}
