use Rattle.std.proofs.Common.{◌≡◌}
use Rattle.pst_marked_bases.specs.Marked.{last_of, marked_bases, marked_within}
use Rattle.pst_marked_bases.proofs.marked.nearest_of.Given as goal

abbrev pub invariant-loop-at : goal.invariant-loop-at
invariant-loop-at l = last_of (marked_within l.marks l.index l.left l.at) ≡ last_of (marked_bases l.marks l.index l.declaration)

abbrev pub decreases-loop-at : goal.decreases-loop-at
decreases-loop-at l = l.left
