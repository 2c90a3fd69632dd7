use Rattle.pst_expr.specs.Tree.{view}
use Rattle.pst_narrow.proofs.OperandLemmas.{operand_gives}
use Rattle.pst_narrow.proofs.operands.operand_span.Goals as goal

pub returns : goal.returns
returns c = operand_gives c.args.op (view c.args.operand.now) c.args.bounds.now c.in-Some.span c.args.wanted c.operand_of.result c.in-Some.ensures.sound c.operand_of.ensures
