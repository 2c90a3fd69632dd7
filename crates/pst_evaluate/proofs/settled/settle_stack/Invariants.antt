use Rattle.pst_evaluate.specs.Settled.{AreDerived, AreListed}
use Rattle.pst_evaluate.proofs.settled.settle_stack.Given as goal

abbrev pub invariant-loop-turn : goal.invariant-loop-turn
invariant-loop-turn l = AreDerived l.sources l.values
