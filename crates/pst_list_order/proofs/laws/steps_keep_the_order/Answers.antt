use Rattle.pst_list_order.proofs.Steps.{down, first, next, over, up}
use Rattle.pst_list_order.proofs.laws.steps_keep_the_order.Goals as goal

pub returns-clause-first : goal.returns-clause-first
returns-clause-first c = first

pub returns-clause-down : goal.returns-clause-down
returns-clause-down c = down

pub returns-clause-next : goal.returns-clause-next
returns-clause-next c = next

pub returns-clause-up : goal.returns-clause-up
returns-clause-up c = up c.places_go_on.ensures.options

pub returns-clause-over : goal.returns-clause-over
returns-clause-over c = over
