use Rattle.pst_reasons.specs.Firsts.{AreForgotten}
use Rattle.pst_reasons.proofs.firsts.forget_changes.Given as goal

abbrev pub invariant-loop-at : goal.invariant-loop-at
invariant-loop-at l = AreForgotten l.mark l.initial.firsts.items l.firsts.items
