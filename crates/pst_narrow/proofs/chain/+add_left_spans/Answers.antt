use Rattle.std.proofs.Common.{sym, subst}
use Rattle.pst_expr.specs.declared.tree.BinaryOp.TheVariants.{Add, Sub}
use Rattle.pst_expr.specs.Tree.{view, Binary}
use Rattle.pst_domain.specs.Laws.{HoldsValues}
use Rattle.pst_narrow.specs.Chains.{HoldLeftParts}
use Rattle.pst_narrow.proofs.SumLemmas.{parts_pushed}
use Rattle.pst_narrow.proofs.chain.+add_left_spans.Goals as goal

pub returns-in_ok-push-in-Add-clause-span : goal.returns-in_ok-push-in-Add-clause-span
returns-in_ok-push-in-Add-clause-span t c =
    let l = c.in-Binary.left.value in
    let r = c.in-Binary.right.value in
    let bounds = c.args.bounds.now in
    let span = c.in_ok-left-in-Add.left in
    let left : HoldsValues span (view l) bounds = subst (λ z. HoldsValues span (view z) bounds) c.deref.ensures c.in_ok-left-in-Add.ensures.span in
    let whole = c.sum.result in
    let right : HoldsValues c.span_of-in-Add.result (view r) bounds = subst (λ z. HoldsValues c.span_of-in-Add.result (view z) bounds) c.deref-in-Add.ensures c.span_of-in-Add.ensures.sound in
    subst (λ z. HoldsValues whole (view z) bounds) (sym c.in-Binary.is)
    (subst (λ o. HoldsValues whole (Binary o (view l) (view r)) bounds) (sym c.in-Add.is)
    (c.sum.ensures (view l) (view r) bounds left right))

pub returns-in_ok-push-in-Add-clause-parts : goal.returns-in_ok-push-in-Add-clause-parts
returns-in_ok-push-in-Add-clause-parts t c =
    let l = c.in-Binary.left.value in
    let r = c.in-Binary.right.value in
    let bounds = c.args.bounds.now in
    let span = c.in_ok-left-in-Add.left in
    let left : HoldsValues span (view l) bounds = subst (λ z. HoldsValues span (view z) bounds) c.deref.ensures c.in_ok-left-in-Add.ensures.span in
    let spans = c.add_left_spans.new.spans.items in
    let more = c.push.new.self.items in
    let parts : HoldLeftParts (view l) spans bounds = subst (λ z. HoldLeftParts (view z) spans bounds) c.deref.ensures c.in_ok-left-in-Add.ensures.parts in
    subst (λ z. HoldLeftParts (view z) more bounds) (sym c.in-Binary.is)
    (subst (λ o. HoldLeftParts (Binary o (view l) (view r)) more bounds) (sym c.in-Add.is)
    (subst (λ s. HoldLeftParts (Binary Add (view l) (view r)) s bounds) (sym c.in_ok-push-in-Add.ensures.items)
    (parts_pushed Add (view l) (view r) spans bounds span parts left)))

pub returns-in_ok-push-in-Sub-clause-span : goal.returns-in_ok-push-in-Sub-clause-span
returns-in_ok-push-in-Sub-clause-span t c =
    let l = c.in-Binary.left.value in
    let r = c.in-Binary.right.value in
    let bounds = c.args.bounds.now in
    let span = c.in_ok-left-in-Sub.left in
    let left : HoldsValues span (view l) bounds = subst (λ z. HoldsValues span (view z) bounds) c.deref-in-Sub.ensures c.in_ok-left-in-Sub.ensures.span in
    let whole = c.difference.result in
    let right : HoldsValues c.span_of-in-Sub.result (view r) bounds = subst (λ z. HoldsValues c.span_of-in-Sub.result (view z) bounds) c.deref-in-Sub-2.ensures c.span_of-in-Sub.ensures.sound in
    subst (λ z. HoldsValues whole (view z) bounds) (sym c.in-Binary.is)
    (subst (λ o. HoldsValues whole (Binary o (view l) (view r)) bounds) (sym c.in-Sub.is)
    (c.difference.ensures (view l) (view r) bounds left right))

pub returns-in_ok-push-in-Sub-clause-parts : goal.returns-in_ok-push-in-Sub-clause-parts
returns-in_ok-push-in-Sub-clause-parts t c =
    let l = c.in-Binary.left.value in
    let r = c.in-Binary.right.value in
    let bounds = c.args.bounds.now in
    let span = c.in_ok-left-in-Sub.left in
    let left : HoldsValues span (view l) bounds = subst (λ z. HoldsValues span (view z) bounds) c.deref-in-Sub.ensures c.in_ok-left-in-Sub.ensures.span in
    let spans = c.add_left_spans-in-Sub.new.spans.items in
    let more = c.push-in-Sub.new.self.items in
    let parts : HoldLeftParts (view l) spans bounds = subst (λ z. HoldLeftParts (view z) spans bounds) c.deref-in-Sub.ensures c.in_ok-left-in-Sub.ensures.parts in
    subst (λ z. HoldLeftParts (view z) more bounds) (sym c.in-Binary.is)
    (subst (λ o. HoldLeftParts (Binary o (view l) (view r)) more bounds) (sym c.in-Sub.is)
    (subst (λ s. HoldLeftParts (Binary Sub (view l) (view r)) s bounds) (sym c.in_ok-push-in-Sub.ensures.items)
    (parts_pushed Sub (view l) (view r) spans bounds span parts left)))
