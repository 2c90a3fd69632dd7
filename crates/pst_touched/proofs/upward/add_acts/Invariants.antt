use Rattle.pst_touched.specs.Ways.{Keeps, HasWaysOf}
use Rattle.pst_touched.proofs.upward.add_acts.Given as goal

abbrev pub invariant-loop-act : goal.invariant-loop-act
invariant-loop-act l = Keeps l.initial.found.items l.found.items × HasWaysOf l.nodes l.from l.found.items l.fresh l.act-index
