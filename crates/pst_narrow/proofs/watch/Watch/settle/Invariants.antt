use Rattle.std.proofs.Common.{map}
use Rattle.pst_expr.specs.Tree.{view}
use Rattle.pst_narrow.proofs.SettleLemmas.{IsSettling}
use Rattle.pst_narrow.proofs.watch.Watch.settle.Given as goal

abbrev pub invariant-loop-at : goal.invariant-loop-at
invariant-loop-at l = IsSettling (map view l.constraints) l.from l.at l.initial.bounds l.bounds l.initial.trail l.trail
