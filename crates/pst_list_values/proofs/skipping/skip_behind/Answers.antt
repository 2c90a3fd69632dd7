use Rattle.pst_list_values.specs.Walked.{kept_of}
use Rattle.pst_list_values.proofs.Steps.{given_at, given_again}
use Rattle.pst_list_values.proofs.skipping.skip_behind.Goals as goal

pub returns-in-None-clause-skips : goal.returns-in-None-clause-skips
returns-in-None-clause-skips c = c.nothing.ensures (kept_of c.args.lists.now) c.args.count c.requires.named

pub skip_values-requires-clause-given : goal.skip_values-requires-clause-given
skip_values-requires-clause-given c = given_at c.args.lists.now c.args.behind.now c.in-Some.valued c.requires.given c.in-Some.is

pub returns-in-Some-clause-given : goal.returns-in-Some-clause-given
returns-in-Some-clause-given c = given_again c.args.lists.now c.args.behind.now c.in-Some.valued c.skip_values.new.valued c.requires.given c.in-Some.is c.skip_values.ensures.same
