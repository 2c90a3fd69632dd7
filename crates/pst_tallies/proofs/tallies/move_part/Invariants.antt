use Rattle.pst_book.specs.Parts.{IsMarked, AreChanged}
use Rattle.pst_tallies.specs.Tallies.{IsMoved}
use Rattle.pst_tallies.proofs.tallies.move_part.Given as goal

abbrev pub invariant-loop-other : goal.invariant-loop-other
invariant-loop-other l = AreChanged (IsMoved l.step (IsMarked l.word l.first)) l.fn.tally l.tally l.first l.other
