use Rattle.std.proofs.Common.{IsTrue, ◌↔◌, List, subst}
use Rattle.pst_model.specs.declared.model.Serve.{Serve}
use Rattle.pst_model.specs.Served.{IsInOrder}
use Rattle.pst_sound.proofs.soundness.is_served.Goals as goal

pub returns-then-not-is_in_order : goal.returns-then-not-is_in_order
returns-then-not-is_in_order c =
    let order = subst (λ (xs : List Serve). IsTrue c.is_in_order.result ↔ IsInOrder xs) c.as_slice.ensures.value c.is_in_order.ensures in
    (λ t. absurd cc, λ h. let t = order.1 h.0 in let f = c.if-not-is_in_order.true in absurd cc)

pub is_served_whole-requires : goal.is_served_whole-requires
is_served_whole-requires c =
    let order = subst (λ (xs : List Serve). IsTrue c.is_in_order.result ↔ IsInOrder xs) c.as_slice.ensures.value c.is_in_order.ensures in
    order.0 c.if-not-is_in_order.false

pub returns : goal.returns
returns c =
    let order = subst (λ (xs : List Serve). IsTrue c.is_in_order.result ↔ IsInOrder xs) c.as_slice.ensures.value c.is_in_order.ensures in
    (λ t. (order.0 c.if-not-is_in_order.false, c.are_serves.ensures.0 c.if-not-are_serves.false, c.is_served_whole.ensures.0 t), λ h. c.is_served_whole.ensures.1 h.2)
