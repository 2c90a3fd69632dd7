use Rattle.pst_search.proofs.Looks.{refused_barren, none_refused}
use Rattle.pst_search.proofs.looking.constraint_refuses.Goals as goal

pub returns-then-free-clause-passed : goal.returns-then-free-clause-passed
returns-then-free-clause-passed c = λ _. c.requires.free c.if-free.true

pub returns-clause-refused : goal.returns-clause-refused
returns-clause-refused c = λ on. refused_barren c.args.lists.now c.refused_lists_are_barren.ensures c.requires.sound c.in_ok-refused.refused on c.requires.read c.in_ok-refused.ensures

pub returns-clause-passed : goal.returns-clause-passed
returns-clause-passed c = λ off. none_refused c.args.lists.now c.in_ok-refused.refused off c.in_ok-refused.ensures
