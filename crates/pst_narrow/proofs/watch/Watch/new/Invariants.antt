use Rattle.std.proofs.Common.{map}
use Rattle.pst_expr.specs.Tree.{view}
use Rattle.pst_narrow.specs.Watch.{AreWatched}
use Rattle.pst_narrow.proofs.watch.Watch.new.Given as goal

abbrev pub invariant-loop-number : goal.invariant-loop-number
invariant-loop-number l = AreWatched (map view l.constraints) l.number l.variables l.mentioned.items l.watching.items
