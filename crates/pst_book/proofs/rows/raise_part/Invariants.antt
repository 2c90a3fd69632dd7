use Rattle.pst_book.specs.Parts.{IsRaised, IsMarked, AreChanged}
use Rattle.pst_book.proofs.rows.raise_part.Given as goal

abbrev pub invariant-loop-other : goal.invariant-loop-other
invariant-loop-other l = AreChanged (IsRaised (IsMarked l.word l.first)) l.fn.counts l.counts l.first l.other
