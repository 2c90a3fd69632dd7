use Rattle.pst_book.specs.Parts.{IsMarked, AreChanged}
use Rattle.pst_static.specs.Stamps.{IsStamped}
use Rattle.pst_static.proofs.latest.stamp_part.Given as goal

abbrev pub invariant-loop-other : goal.invariant-loop-other
invariant-loop-other l = AreChanged (IsStamped l.value (IsMarked l.word l.first)) l.fn.places l.places l.first l.other
