use Rattle.std.proofs.Common.{sym, subst}
use Rattle.pst_operands.specs.Operands.{KeepOperands, applied}
use Rattle.pst_operands.proofs.operands.operands_of.Goals as goal

pub returns-in-Mul : goal.returns-in-Mul
returns-in-Mul c = subst (λ o. KeepOperands (applied o) c.args.spans c.args.wanted c.product.result) (sym c.in-Mul.is) c.product.ensures

pub returns-in-Div : goal.returns-in-Div
returns-in-Div c = subst (λ o. KeepOperands (applied o) c.args.spans c.args.wanted c.quotient.result) (sym c.in-Div.is) c.quotient.ensures

pub returns-in-Rem : goal.returns-in-Rem
returns-in-Rem c = subst (λ o. KeepOperands (applied o) c.args.spans c.args.wanted c.remainder.result) (sym c.in-Rem.is) c.remainder.ensures

pub returns-in-Add : goal.returns-in-Add
returns-in-Add c = subst (λ o. KeepOperands (applied o) c.args.spans c.args.wanted c.sum.result) (sym c.in-Add.is) c.sum.ensures

pub returns-in-Sub : goal.returns-in-Sub
returns-in-Sub c = subst (λ o. KeepOperands (applied o) c.args.spans c.args.wanted c.difference.result) (sym c.in-Sub.is) c.difference.ensures

pub returns-in-Shl : goal.returns-in-Shl
returns-in-Shl c = subst (λ o. KeepOperands (applied o) c.args.spans c.args.wanted c.shift_left.result) (sym c.in-Shl.is) c.shift_left.ensures

pub returns-in-Shr : goal.returns-in-Shr
returns-in-Shr c = subst (λ o. KeepOperands (applied o) c.args.spans c.args.wanted c.shift_right.result) (sym c.in-Shr.is) c.shift_right.ensures

pub returns-in-Less : goal.returns-in-Less
returns-in-Less c = subst (λ o. KeepOperands (applied o) c.args.spans c.args.wanted c.less.result) (sym c.in-Less.is) c.less.ensures

pub returns-in-LessOrEqual : goal.returns-in-LessOrEqual
returns-in-LessOrEqual c = subst (λ o. KeepOperands (applied o) c.args.spans c.args.wanted c.less_or_equal.result) (sym c.in-LessOrEqual.is) c.less_or_equal.ensures

pub returns-in-Greater : goal.returns-in-Greater
returns-in-Greater c = subst (λ o. KeepOperands (applied o) c.args.spans c.args.wanted c.greater.result) (sym c.in-Greater.is) c.greater.ensures

pub returns-in-GreaterOrEqual : goal.returns-in-GreaterOrEqual
returns-in-GreaterOrEqual c = subst (λ o. KeepOperands (applied o) c.args.spans c.args.wanted c.greater_or_equal.result) (sym c.in-GreaterOrEqual.is) c.greater_or_equal.ensures

pub returns-in-Equal : goal.returns-in-Equal
returns-in-Equal c = subst (λ o. KeepOperands (applied o) c.args.spans c.args.wanted c.equal.result) (sym c.in-Equal.is) c.equal.ensures

pub returns-in-NotEqual : goal.returns-in-NotEqual
returns-in-NotEqual c = subst (λ o. KeepOperands (applied o) c.args.spans c.args.wanted c.not_equal.result) (sym c.in-NotEqual.is) c.not_equal.ensures

pub returns-in-BitAnd : goal.returns-in-BitAnd
returns-in-BitAnd c = subst (λ o. KeepOperands (applied o) c.args.spans c.args.wanted c.and.result) (sym c.in-BitAnd.is) c.and.ensures

pub returns-in-BitXor : goal.returns-in-BitXor
returns-in-BitXor c = subst (λ o. KeepOperands (applied o) c.args.spans c.args.wanted c.xor.result) (sym c.in-BitXor.is) c.xor.ensures

pub returns-in-BitOr : goal.returns-in-BitOr
returns-in-BitOr c = subst (λ o. KeepOperands (applied o) c.args.spans c.args.wanted c.or.result) (sym c.in-BitOr.is) c.or.ensures

pub returns-in-And : goal.returns-in-And
returns-in-And c = record { left = λ x y z h k l e. h; right = λ x y z h k l e. k }

pub returns-in-Or : goal.returns-in-Or
returns-in-Or c = record { left = λ x y z h k l e. h; right = λ x y z h k l e. k }

pub returns-in-Implies : goal.returns-in-Implies
returns-in-Implies c = record { left = λ x y z h k l e. h; right = λ x y z h k l e. k }
