use Rattle.pst_book.specs.Parts.{IsLowered, IsMarked, AreChanged}
use Rattle.pst_book.proofs.rows.lower_part.Given as goal

abbrev pub invariant-loop-other : goal.invariant-loop-other
invariant-loop-other l = AreChanged (IsLowered (IsMarked l.word l.first)) l.fn.counts l.counts l.first l.other
