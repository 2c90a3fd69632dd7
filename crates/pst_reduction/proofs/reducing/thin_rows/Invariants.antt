use Rattle.pst_reduction.specs.Parts.{AreThinBelow}
use Rattle.pst_reduction.proofs.reducing.thin_rows.Given as goal

abbrev pub invariant-loop-a : goal.invariant-loop-a
invariant-loop-a l = AreThinBelow l.row l.whole l.count l.words l.a
