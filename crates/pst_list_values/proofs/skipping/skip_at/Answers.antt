use Rattle.std.proofs.Common.{subst}
use Rattle.pst_list_values.specs.Tied.{IsTied}
use Rattle.pst_list_values.proofs.skipping.skip_at.Goals as goal

pub returns-in-None-clause-skips : goal.returns-in-None-clause-skips
returns-in-None-clause-skips c = c.skip_fields.ensures

pub skip_behind-requires-clause-given : goal.skip_behind-requires-clause-given
skip_behind-requires-clause-given c = subst (IsTied c.args.lists.now) c.in-Some.is c.requires.tied

pub returns-in-Some-clause-tied : goal.returns-in-Some-clause-tied
returns-in-Some-clause-tied c = c.skip_behind.ensures.given
