use Rattle.pst_book.specs.Ready.{NoneIn}
use Rattle.pst_book.proofs.ready.least_in.Given as goal

abbrev pub invariant-loop-group : goal.invariant-loop-group
invariant-loop-group l = NoneIn l.run.plan l.run.lanes l.run.trace l.first l.group
