use Rattle.std.proofs.Common.{sym, subst, ◌∙◌}
use Rattle.pst_expr.specs.Tree.{view}
use Rattle.pst_domain.specs.Laws.{HoldsValues}
use Rattle.pst_narrow.proofs.OperandLemmas.{operands_give}
use Rattle.pst_narrow.proofs.operands.operand_spans.Goals as goal

pub returns : goal.returns
returns c p sound =
    let bounds = c.args.bounds.now in
    operands_give c.args.op p (view c.args.right.now) bounds c.in-Some.left c.in-Some-span_of.right c.args.wanted c.operands_of.result (sym c.needs_both.ensures ∙ c.if-not-needs_both.false) (subst (λ s. HoldsValues s p bounds) c.in-Some.is sound) c.in-Some-span_of.ensures.sound c.operands_of.ensures
