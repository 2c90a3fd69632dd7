use Rattle.std.proofs.Common.{map, length}
use Rattle.pst_expr.specs.Tree.{view}
use Rattle.pst_reasons.proofs.BackLemmas.{IsGoingBack}
use Rattle.pst_reasons.proofs.reasons.Narrowed.reasons.Given as goal

abbrev pub invariant-loop-left : goal.invariant-loop-left
invariant-loop-left l = IsGoingBack (map view l.self.constraints.items) l.self.given.items l.self.steps.items l.self.trail l.self.bounds l.left l.end (length l.self.bounds) l.marks l.places.items

abbrev pub decreases-loop-left : goal.decreases-loop-left
decreases-loop-left l = l.left
