use Rattle.std.proofs.Common.{subst}
use Rattle.pst_link_order.specs.Outcomes.{TellsOutcome}
use Rattle.pst_link_order.proofs.judging.judge.Goals as goal

pub returns-in-Refused-clause-refused : goal.returns-in-Refused-clause-refused
returns-in-Refused-clause-refused c = λ _. subst (TellsOutcome c.args.scenario.now) c.in-Refused.is c.in_ok-outcome.ensures
