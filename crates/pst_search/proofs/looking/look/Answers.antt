use Rattle.std.proofs.Common.{subst}
use Rattle.pst_list_walk.specs.Walks.{answer}
use Rattle.pst_search.specs.Readings.{IsShown}
use Rattle.pst_search.proofs.looking.look.Goals as goal

pub dead-requires : goal.dead-requires
dead-requires c = subst (IsShown (answer c.args.lists.now)) c.in-None.is c.shown_at.ensures

pub unless_refused-requires-clause-read : goal.unless_refused-requires-clause-read
unless_refused-requires-clause-read c = (subst (IsShown (answer c.args.lists.now)) c.in-Some.is c.shown_at.ensures).0

pub unless_refused-requires-clause-shown : goal.unless_refused-requires-clause-shown
unless_refused-requires-clause-shown c = (subst (IsShown (answer c.args.lists.now)) c.in-Some.is c.shown_at.ensures).1
