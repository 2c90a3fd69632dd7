use Rattle.pst_nodes.proofs.Bits.{no_true}
use Rattle.pst_graph.proofs.Running.{run_is, before_next}
use Rattle.pst_graph.proofs.runs.end_of_run.Goals as goal

pub returns-then-not-are_together-clause-run : goal.returns-then-not-are_together-clause-run
returns-then-not-are_together-clause-run c =
    run_is c.args.uses.now c.requires.ascend c.args.from c.rest.to c.rest.invariant.more c.rest.invariant.within c.rest.invariant.same (λ to_in t. no_true (c.if-not-are_together.ensures.1 t)) c.requires.before

pub returns-then-not-are_together-clause-before : goal.returns-then-not-are_together-clause-before
returns-then-not-are_together-clause-before c =
    before_next c.args.uses.now c.requires.ascend c.args.from c.rest.to c.rest.invariant.more c.rest.invariant.within c.rest.invariant.same (λ to_in t. no_true (c.if-not-are_together.ensures.1 t)) c.requires.before
