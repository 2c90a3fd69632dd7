use Rattle.pst_expr.proofs.LeftLemmas.{step_part, ended}
use Rattle.pst_expr.proofs.tree.Expr.left_part.Goals as goal

pub loop-preserved : goal.loop-preserved
loop-preserved c = step_part c.args.self.now c.loop.part.now c.deref-part.result.now c.loop.counter c.in-Binary.field-0 c.in-Binary.left c.in-Binary.field-2 c.in-Binary.is c.deref-part.ensures c.loop.invariant

pub returns-in_default : goal.returns-in_default
returns-in_default c = ended c.args.self.now c.loop.part.now c.loop.counter c.args.depth c.in_default.not-Binary c.loop.invariant c.loop.auto.counter-end
