use Rattle.pst_tests_plans.proofs.Blocks.{whole_blocks}
use Rattle.pst_tests_plans.proofs.judge.verdict.Goals as goal

pub check-requires-clause-blocks : goal.check-requires-clause-blocks
check-requires-clause-blocks c =
    let book = c.args.book.now in
    whole_blocks book.scenario book.lanes c.trace-events.result.now (c.prefixes_are_legal.ensures book.scenario book.lanes c.trace-events.result.now c.trace-events.ensures.prefix)

pub check-requires-clause-links : goal.check-requires-clause-links
check-requires-clause-links c = c.requires.built.linked.states

pub check-requires-clause-preorder : goal.check-requires-clause-preorder
check-requires-clause-preorder c = c.requires.built.linked.preorder

pub check-requires-clause-one_leaf : goal.check-requires-clause-one_leaf
check-requires-clause-one_leaf c = c.requires.built.linked.one_leaf

pub check-requires-clause-small : goal.check-requires-clause-small
check-requires-clause-small c = c.requires.built.small.acts
