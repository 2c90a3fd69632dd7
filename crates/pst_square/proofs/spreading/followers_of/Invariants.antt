use Rattle.pst_square.specs.Listed.{ListsAll}
use Rattle.pst_square.specs.Spread.{IsFollower}
use Rattle.pst_square.proofs.spreading.followers_of.Given as goal

abbrev pub invariant-loop-b : goal.invariant-loop-b
invariant-loop-b l = ListsAll (IsFollower l.groups) l.b l.followers.items
