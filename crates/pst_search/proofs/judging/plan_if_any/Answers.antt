use Rattle.pst_search.proofs.Plans.{refused_told}
use Rattle.pst_search.proofs.judging.plan_if_any.Goals as goal

pub returns-then-refused : goal.returns-then-refused
returns-then-refused c = refused_told c.args.scenario.now c.in-Err.end c.is_refusal-refused.result c.if-refused.true c.is_refusal-refused.ensures c.in-Err.ensures.answers c.in-Err.ensures.unrefused
