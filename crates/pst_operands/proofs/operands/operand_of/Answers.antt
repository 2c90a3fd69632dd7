use Rattle.std.proofs.Common.{sym, subst}
use Rattle.pst_expr.specs.Value.{unary_value}
use Rattle.pst_operands.specs.Keeps.{KeepsOperand}
use Rattle.pst_operands.proofs.operands.operand_of.Goals as goal

pub returns-in-Neg : goal.returns-in-Neg
returns-in-Neg c = subst (λ o. KeepsOperand (unary_value o) c.args.span c.args.wanted c.negation.result) (sym c.in-Neg.is) c.negation.ensures

pub returns-in-Not : goal.returns-in-Not
returns-in-Not c = subst (λ o. KeepsOperand (unary_value o) c.args.span c.args.wanted c.not.result) (sym c.in-Not.is) c.not.ensures

pub returns-in-BitNot : goal.returns-in-BitNot
returns-in-BitNot c = subst (λ o. KeepsOperand (unary_value o) c.args.span c.args.wanted c.inverse.result) (sym c.in-BitNot.is) c.inverse.ensures
