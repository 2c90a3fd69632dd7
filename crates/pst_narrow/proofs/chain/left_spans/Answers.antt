use Rattle.std.proofs.Common.{sym, subst}
use Rattle.pst_expr.specs.Tree.{view, Binary}
use Rattle.pst_domain.specs.Laws.{HoldsValues}
use Rattle.pst_narrow.specs.Chains.{HoldLeftParts}
use Rattle.pst_narrow.proofs.SumLemmas.{parts_pushed}
use Rattle.pst_narrow.proofs.chain.left_spans.Goals as goal

pub returns : goal.returns
returns c =
    let op = c.in-Binary._op in
    let l = c.in-Binary.left.value in
    let r = c.in-Binary._right.value in
    let bounds = c.args.bounds.now in
    let span = c.in_ok-span.span in
    let spans = c.add_left_spans.new.spans.items in
    let more = c.push.new.self.items in
    let left : HoldsValues span (view l) bounds = subst (λ z. HoldsValues span (view z) bounds) c.deref-2.ensures c.in_ok-span.ensures.span in
    let parts : HoldLeftParts (view l) spans bounds = subst (λ z. HoldLeftParts (view z) spans bounds) c.deref-2.ensures c.in_ok-span.ensures.parts in
    subst (λ z. HoldLeftParts (view z) more bounds) (sym c.in-Binary.is)
    (subst (λ s. HoldLeftParts (Binary op (view l) (view r)) s bounds) (sym c.in_ok-push.ensures.items)
    (parts_pushed op (view l) (view r) spans bounds span parts left))
