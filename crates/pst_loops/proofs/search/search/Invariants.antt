use Rattle.std.proofs.Common.{◌+◌, length}
use Rattle.pst_loops.specs.Search.{IsSearch, EachGone, work}
use Rattle.pst_loops.proofs.search.search.Given as goal

abbrev pub invariant-loop-top : goal.invariant-loop-top
invariant-loop-top l = IsSearch l.edges l.from l.to l.marks l.stack.items EachGone

abbrev pub decreases-loop-top : goal.decreases-loop-top
decreases-loop-top l = work l.marks + length l.stack.items
