use Rattle.pst_evaluate.specs.Settled.{AreDerived}
use Rattle.pst_evaluate.proofs.items.settle_all.Given as goal

abbrev pub invariant-loop-pass : goal.invariant-loop-pass
invariant-loop-pass l = AreDerived l.sources l.values
