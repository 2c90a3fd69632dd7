use Rattle.std.proofs.Common.{subst}
use Rattle.pst_list_values.specs.Tied.{IsTied}
use Rattle.pst_list_values.proofs.behind.choose_at.Goals as goal

pub choose_next-requires-clause-given : goal.choose_next-requires-clause-given
choose_next-requires-clause-given c = subst (IsTied c.args.lists.now) c.in-Some.is c.requires.tied
