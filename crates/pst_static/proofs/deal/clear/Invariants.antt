use Rattle.std.proofs.Common.{◌≡◌, ◌<◌, ℕ, length, get_or, false}
use Rattle.pst_static.proofs.deal.clear.Given as goal

abbrev pub invariant-loop-lane : goal.invariant-loop-lane
invariant-loop-lane l = record {
  many : length l.used ≡ length l.fn.used;
  none : (m : ℕ) → m < l.lane → get_or l.used m false ≡ false;
}
