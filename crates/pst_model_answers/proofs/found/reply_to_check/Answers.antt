use Rattle.pst_model_answers.proofs.found.reply_to_check.Goals as goal

pub checked-requires-clause-links : goal.checked-requires-clause-links
checked-requires-clause-links c = c.requires.ready.links

pub checked-requires-clause-planned : goal.checked-requires-clause-planned
checked-requires-clause-planned c = c.requires.ready.planned

pub checked-requires-clause-preorder : goal.checked-requires-clause-preorder
checked-requires-clause-preorder c = c.requires.ready.preorder

pub checked-requires-clause-one_leaf : goal.checked-requires-clause-one_leaf
checked-requires-clause-one_leaf c = c.requires.ready.one_leaf

pub checked-requires-clause-small : goal.checked-requires-clause-small
checked-requires-clause-small c = c.requires.ready.small

pub returns : goal.returns
returns c = (c.in_ok-answer.answer, c.in_ok-answer.ensures, record { answer_is = c.answer_of_check.ensures; text_is = c.in_ok-text.ensures })
