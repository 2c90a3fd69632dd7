use Rattle.pst_reasons.proofs.MarkLemmas.{NoneMarkedUpTo}
use Rattle.pst_reasons.proofs.reasons.is_any_marked.Given as goal

abbrev pub invariant-loop-change : goal.invariant-loop-change
invariant-loop-change l = NoneMarkedUpTo l.marks l.changes l.change-index
