use Rattle.std.proofs.Common.{◌+◌, IsTrue, ◌↔◌, List, drop, slice_index_or, subst, sym, refl, arith}
use Rattle.std.proofs.lemmas.List.{drop_all}
use Rattle.pst_model.specs.declared.model.Serve.{Serve}
use Rattle.pst_model.specs.Served.{ComesBefore, ComesBeforeFirst, IsInOrder}
use Rattle.pst_model.proofs.Pairs.{pairs_nil}
use Rattle.pst_sound_parts.proofs.Pairs.{tail_is, refuted, kept}
use Rattle.pst_sound_parts.proofs.Searches.{order_drop}
use Rattle.pst_sound_parts.proofs.served.is_in_order.Goals as goal

abbrev no_entry : Serve
no_entry = record { action = 0; instance = 0; reference = 0; pool = 0 }

pub returns-then-not-comes_before_first : goal.returns-then-not-comes_before_first
returns-then-not-comes_before_first c =
    let i = c.loop-index.index in
    let served = c.args.served.now in
    let s = slice_index_or served i no_entry in
    let test : IsTrue c.comes_before_first.result ↔ ComesBeforeFirst s (drop (i + 1) served) = subst (λ (ys : List Serve). IsTrue c.comes_before_first.result ↔ ComesBeforeFirst s ys) (tail_is served (i + 1)) c.comes_before_first.ensures in
    refuted c.comes_before_first.result c.if-not-comes_before_first.true test c.loop-index.invariant (λ a. ((order_drop served i no_entry c.loop-index-test.true).0 a).0)

pub loop-index-preserved : goal.loop-index-preserved
loop-index-preserved c =
    let i = c.loop-index.index in
    let served = c.args.served.now in
    let s = slice_index_or served i no_entry in
    let test : IsTrue c.comes_before_first.result ↔ ComesBeforeFirst s (drop (i + 1) served) = subst (λ (ys : List Serve). IsTrue c.comes_before_first.result ↔ ComesBeforeFirst s ys) (tail_is served (i + 1)) c.comes_before_first.ensures in
    kept c.comes_before_first.result c.if-not-comes_before_first.false test c.loop-index.invariant (order_drop served i no_entry c.loop-index-test.true)

pub returns : goal.returns
returns c =
    let end = c.loop-index-test.false in
    let none = drop_all c.loop-index.index c.args.served.now (omega (arith, end)) in
    (λ t. c.loop-index.invariant.0 (subst (λ (ys : List Serve). IsInOrder ys) (sym none) (pairs_nil ComesBefore)), λ h. refl)
