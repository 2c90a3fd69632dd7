use Rattle.pst_reasons.proofs.FirstLemmas.{AreNotedTo}
use Rattle.pst_reasons.proofs.firsts.note_changes.Given as goal

abbrev pub invariant-loop-at : goal.invariant-loop-at
invariant-loop-at l = AreNotedTo l.formers l.mark l.at l.initial.firsts.items l.firsts.items
