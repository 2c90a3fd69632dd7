use Rattle.pst_plan_so_far.proofs.Refused.{refuse}
use Rattle.pst_plan_so_far.proofs.laws.plans_refuse_lists.Goals as goal

pub returns : goal.returns
returns c = refuse c.clashes_stay.ensures.cycle c.clashes_stay.ensures.group c.clashes_stay.ensures.own c.parallel_disputes_stay.ensures.orders c.parallel_disputes_stay.ensures.clashes
