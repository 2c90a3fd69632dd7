use Rattle.std.proofs.Common.{◌≡◌, ◌<◌, ◌+◌, ◌*◌, ℕ, get_or}
use Rattle.pst_square.proofs.walk.are_same_rows.Given as goal

abbrev pub invariant-loop-w : goal.invariant-loop-w
invariant-loop-w l = (v : ℕ) → v < l.w → get_or l.base (l.a * l.row + v) 0 ≡ get_or l.base (l.c * l.row + v) 0
