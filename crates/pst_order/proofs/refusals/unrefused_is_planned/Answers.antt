use Rattle.pst_order.proofs.Laws.{planned_unrefused}
use Rattle.pst_order.proofs.Unrefused.{unrefused_plan}
use Rattle.pst_order.proofs.refusals.unrefused_is_planned.Goals as goal

pub returns : goal.returns
returns c = record { planned = λ s p linked are free. unrefused_plan s linked c.before_is_never_itself.ensures p are free; unrefused = planned_unrefused }
