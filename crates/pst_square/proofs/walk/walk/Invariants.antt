use Rattle.pst_square.specs.Walks.{IsWalked, AllBelow, left}
use Rattle.pst_square.proofs.walk.walk.Given as goal

abbrev pub decreases-steps : goal.decreases-steps
decreases-steps l = left l.stages l.path.items

abbrev pub invariant-steps : goal.invariant-steps
invariant-steps l = record { walked : IsWalked l.count l.row l.base l.words l.stages; path_in : AllBelow l.count l.path.items }
