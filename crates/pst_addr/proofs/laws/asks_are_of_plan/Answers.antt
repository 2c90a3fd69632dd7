use Rattle.pst_addr.proofs.OfPlan.{of_plan}
use Rattle.pst_addr.proofs.laws.asks_are_of_plan.Goals as goal

pub returns : goal.returns
returns c = of_plan
