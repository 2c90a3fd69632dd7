use Rattle.pst_evaluate.specs.Settled.{AreDerived, AreListed}
use Rattle.pst_evaluate.proofs.settled.settle_each.Given as goal

abbrev pub invariant-loop-number : goal.invariant-loop-number
invariant-loop-number l = AreDerived l.sources l.values
