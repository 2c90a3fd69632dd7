use Rattle.std.proofs.Common.{◌+◌, pos, IsTrue, ◌↔◌, All, List, drop, slice_index_or, subst}
use Rattle.pst_expr.specs.declared.ranges.Span.{Span}
use Rattle.pst_model.specs.SoundActivity.{AreApart}
use Rattle.pst_sound_parts.proofs.Pairs.{tail_is, pairs_drop, refuted, kept}
use Rattle.pst_sound_parts.proofs.ranges.are_apart.Goals as goal

abbrev zero_span : Span
zero_span = record { low = pos 0; high = pos 0 }

pub returns-then-not-is_apart_from : goal.returns-then-not-is_apart_from
returns-then-not-is_apart_from c =
    let i = c.loop-index.index in
    let spans = c.args.spans.now in
    let s = slice_index_or spans i zero_span in
    let test : IsTrue c.is_apart_from.result ↔ All (AreApart s) (drop (i + 1) spans) = subst (λ (ys : List Span). IsTrue c.is_apart_from.result ↔ All (AreApart s) ys) (tail_is spans (i + 1)) c.is_apart_from.ensures in
    refuted c.is_apart_from.result c.if-not-is_apart_from.true test c.loop-index.invariant (λ a. ((pairs_drop AreApart spans i zero_span c.loop-index-test.true).0 a).0)

pub loop-index-preserved : goal.loop-index-preserved
loop-index-preserved c =
    let i = c.loop-index.index in
    let spans = c.args.spans.now in
    let s = slice_index_or spans i zero_span in
    let test : IsTrue c.is_apart_from.result ↔ All (AreApart s) (drop (i + 1) spans) = subst (λ (ys : List Span). IsTrue c.is_apart_from.result ↔ All (AreApart s) ys) (tail_is spans (i + 1)) c.is_apart_from.ensures in
    kept c.is_apart_from.result c.if-not-is_apart_from.false test c.loop-index.invariant (pairs_drop AreApart spans i zero_span c.loop-index-test.true)
