use Rattle.std.proofs.Common.{◌≡◌}
use Rattle.pst_fitting.proofs.places.is_named.Given as goal

abbrev pub invariant-loop-other : goal.invariant-loop-other
invariant-loop-other l = l.place ≡ l.fn.place
