use Rattle.pst_reasons.specs.Marks.{AreUnmarked}
use Rattle.pst_reasons.proofs.reasons.unmark_unchanged.Given as goal

abbrev pub invariant-loop-change : goal.invariant-loop-change
invariant-loop-change l = AreUnmarked l.firsts l.mark l.initial.marks l.marks
