use Rattle.std.proofs.Common.{subst}
use Rattle.pst_search.specs.Judging.{TellsPlanned}
use Rattle.pst_search.proofs.judging.has_plan.Goals as goal

pub returns-in-Some : goal.returns-in-Some
returns-in-Some c = (c.in-Some._plan, subst (TellsPlanned c.args.scenario.now) c.in-Some.is c.in_ok-plan.ensures)

pub returns-in-None : goal.returns-in-None
returns-in-None c = subst (TellsPlanned c.args.scenario.now) c.in-None.is c.in_ok-plan.ensures
