use Rattle.std.proofs.Common.{subst}
use Rattle.pst_list_values.specs.Tied.{IsTied}
use Rattle.pst_search.proofs.looking.look_behind.Goals as goal

pub look_given-requires-clause-given : goal.look_given-requires-clause-given
look_given-requires-clause-given c = subst (IsTied c.args.lists.now) c.in-Some.is c.requires.tied
