use Rattle.pst_steady.specs.Lined.{AreMarks}
use Rattle.pst_steady.proofs.lineage.marks_of.Given as goal

abbrev pub invariant-loop-at : goal.invariant-loop-at
invariant-loop-at l = AreMarks l.declarations l.action l.at l.marks.items
