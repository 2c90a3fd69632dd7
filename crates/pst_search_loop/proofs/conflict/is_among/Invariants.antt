use Rattle.std.proofs.Common.{◌≡◌}
use Rattle.pst_search_loop.proofs.conflict.is_among.Given as goal

abbrev pub invariant-loop-other : goal.invariant-loop-other
invariant-loop-other l = l.place ≡ l.fn.place
