use Rattle.pst_search.proofs.Looks.{shows_live}
use Rattle.pst_search.proofs.looking.unless_refused.Goals as goal

pub returns : goal.returns
returns c = shows_live c.args.lists.now c.args.shown c.requires.shown (c.in_ok-unmet.ensures.passed c.if-unmet.false)
