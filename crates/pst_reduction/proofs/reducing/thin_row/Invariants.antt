use Rattle.pst_reduction.specs.Parts.{IsThinned}
use Rattle.pst_reduction.proofs.reducing.thin_row.Given as goal

abbrev pub invariant-loop : goal.invariant-loop
invariant-loop l = IsThinned l.row l.whole l.count l.fn.words l.words l.a
