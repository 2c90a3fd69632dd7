use Rattle.pst_reasons.proofs.MarkLemmas.{AreMarkedUpTo}
use Rattle.pst_reasons.proofs.reasons.mark_changed.Given as goal

abbrev pub invariant-loop-variable : goal.invariant-loop-variable
invariant-loop-variable l = AreMarkedUpTo l.variables l.firsts l.mark l.variable-index l.initial.marks l.marks
