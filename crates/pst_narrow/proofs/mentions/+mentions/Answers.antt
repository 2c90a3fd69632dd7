use Rattle.std.proofs.Common.{◌^◌, sym, subst, refl, arith}
use Rattle.std.proofs.lemmas.Result.{on_ok_weaker}
use Rattle.pst_expr.specs.Tree.{view}
use Rattle.pst_expr.proofs.Weight.{weight}
use Rattle.pst_domain.specs.Bounds.{HasVariablesBelow}
use Rattle.pst_narrow.specs.Mentions.{Mentions, IsElement, AreNoted}
use Rattle.pst_narrow.proofs.NotedLemmas.{noted_both, noted_right_first}
use Rattle.pst_narrow.proofs.WeightLemmas.{left_lighter}
use Rattle.pst_narrow.proofs.mentions.+mentions.Goals as goal

pub add_mentioned-loop-depth-preserved : goal.add_mentioned-loop-depth-preserved
add_mentioned-loop-depth-preserved t c =
    let p = c.loop-depth.part.now in
    let l = c.in-Binary.left.value in
    let r = c.in-Binary.right.value in
    let next = c.deref-part.result.now in
    let old = c.loop-depth.numbers.items in
    let new = c.add_mentioned.new.numbers.items in
    let h = c.loop-depth.invariant in
    let lighter = left_lighter p next (weight (view p)) refl c.in-Binary.field-0 c.in-Binary.left c.in-Binary.right c.in-Binary.is c.deref-part.ensures in
    let right = subst (λ z. AreNoted (Mentions (view z)) old new) c.deref.ensures (c.in_ok-add_mentioned.ensures) in
    let parts = subst (λ z. HasVariablesBelow (2 ^ 32) (view z)) c.in-Binary.is h.below in
    record {
      light = omega (arith, h.light, lighter);
      below = subst (λ z. HasVariablesBelow (2 ^ 32) (view z)) (sym c.deref-part.ensures) parts.0;
      more = λ all n. h.more all (subst (λ z. AreNoted (Mentions (view z)) old all) (sym c.in-Binary.is) (noted_right_first c.in-Binary.field-0 (view l) (view r) old new all right (subst (λ z. AreNoted (Mentions (view z)) new all) c.deref-part.ensures n)));
    }

pub add_of_operands-returns-in_ok-add_mentioned-in-Binary : goal.add_of_operands-returns-in_ok-add_mentioned-in-Binary
add_of_operands-returns-in_ok-add_mentioned-in-Binary t c =
    let l = c.in-Binary.left.value in
    let r = c.in-Binary.right.value in
    let a = c.args.numbers.now.items in
    let b = c.add_mentioned-in-Binary.new.numbers.items in
    let d = c.add_mentioned-in-Binary-2.new.numbers.items in
    let first : AreNoted (Mentions (view l)) a b = subst (λ z. AreNoted (Mentions (view z)) a b) c.deref-in-Binary.ensures c.in_ok-add_mentioned-in-Binary.ensures in
    on_ok_weaker c.add_mentioned-in-Binary-2.result
    (λ second.
    let both = noted_both (Mentions (view l)) (Mentions (view r)) a b d first (subst (λ z. AreNoted (Mentions (view z)) b d) c.deref-in-Binary-2.ensures second) in
    subst (λ z. AreNoted (Mentions (view z)) a d) (sym c.in-Binary.is) both)
    c.add_mentioned-in-Binary-2.ensures

pub add_of_operands-returns-in_ok-add_elements-in-Element : goal.add_of_operands-returns-in_ok-add_elements-in-Element
add_of_operands-returns-in_ok-add_elements-in-Element t c =
    let e = c.in-Element.index.value in
    let a = c.args.numbers.now.items in
    let b = c.add_elements.new.numbers.items in
    let d = c.add_mentioned-in-Element.new.numbers.items in
    on_ok_weaker c.add_mentioned-in-Element.result
    (λ second.
    let both = noted_both (IsElement c.in-Element.first c.in-Element.count) (Mentions (view e)) a b d c.in_ok-add_elements-in-Element.ensures (subst (λ z. AreNoted (Mentions (view z)) b d) c.deref-in-Element.ensures second) in
    subst (λ z. AreNoted (Mentions (view z)) a d) (sym c.in-Element.is) both)
    c.add_mentioned-in-Element.ensures
