use Rattle.std.proofs.Common.{◌+◌, ◌≡◌}
use Rattle.pst_addr.specs.Ranges.{IsReached}
use Rattle.pst_addr.proofs.first_fit.first_fit.Given as goal

abbrev pub invariant-loop-k : goal.invariant-loop-k
invariant-loop-k l = IsReached l.plan l.fn.space l.ranges l.ask l.k l.address × (l.last + l.ask.size ≡ l.fn.space.base + l.fn.space.size)
