use Rattle.pst_link_order.proofs.Ahead.{judged, plan_ahead}
use Rattle.pst_link_order.proofs.judging.outcome_of.Goals as goal

pub returns-in-Ok : goal.returns-in-Ok
returns-in-Ok c = plan_ahead c.args.scenario.now c.args.written.now c.requires c.in-Ok.plan c.in-Ok.ensures.answers

pub returns-then-refused : goal.returns-then-refused
returns-then-refused c = judged c.args.scenario.now c.args.written.now c.requires c.in-Err.end c.in-Err.ensures.answers (c.in_ok-refused-in-Err.ensures c.if-refused.true)
