use Rattle.pst_square.proofs.Walking.{all_closed}
use Rattle.pst_square.proofs.walk.walk.Goals as goal

pub returns-clause-closed : goal.returns-clause-closed
returns-clause-closed c = λ whole.
    all_closed c.args.count c.args.row c.args.base.now c.steps.words c.steps.stages c.steps.invariant.walked (c.are_finished.ensures.0 whole)
