use Rattle.pst_narrow.proofs.SettleLemmas.{AreAllLooked}
use Rattle.pst_narrow.proofs.settle.look_at_all.Given as goal

abbrev pub invariant-loop-constraint : goal.invariant-loop-constraint
invariant-loop-constraint l = AreAllLooked l.constraints l.constraint-index l.initial.bounds l.bounds l.initial.trail l.trail
