use Rattle.std.proofs.Common.{◌+◌, IsTrue, ◌↔◌, All, AllPairs, List, drop, map, subst}
use Rattle.std.specs.List.{flat_map}
use Rattle.pst_expr.specs.declared.ranges.Span.{Span}
use Rattle.pst_model.specs.declared.activity.Arm.{Arm}
use Rattle.pst_model.specs.ActivityTree.{spans_of}
use Rattle.pst_model.specs.ModelView.{view_arm}
use Rattle.pst_model.specs.SoundActivity.{AreApart}
use Rattle.pst_sound_parts.proofs.Pairs.{flat_pairs_drop, tail_is, refuted}
use Rattle.pst_sound_parts.proofs.ranges.are_arms_apart.Goals as goal

pub returns-then-not-are_apart : goal.returns-then-not-are_apart
returns-then-not-are_apart c =
    let x = c.index-arms-index.result in
    let test : IsTrue c.are_apart.result ↔ AllPairs AreApart x.spans.items = subst (λ (ys : List Span). IsTrue c.are_apart.result ↔ AllPairs AreApart ys) c.as_slice-spans.ensures.value c.are_apart.ensures in
    refuted c.are_apart.result c.if-not-are_apart.true test c.loop-index.invariant (λ a. ((flat_pairs_drop AreApart view_arm spans_of c.args.arms.now c.loop-index.index x c.loop-index-test.true c.index-arms-index.is).0 a).0)

pub returns-then-not-are_apart_from_arms : goal.returns-then-not-are_apart_from_arms
returns-then-not-are_apart_from_arms c =
    let x = c.index-arms-index.result in
    let later = drop (c.loop-index.index + 1) c.args.arms.now in
    let some : IsTrue c.are_apart_from_arms.result ↔ All (λ s. All (AreApart s) (flat_map spans_of (map view_arm later))) c.as_slice-spans.result.now = subst (λ (ys : List Arm). IsTrue c.are_apart_from_arms.result ↔ All (λ s. All (AreApart s) (flat_map spans_of (map view_arm ys))) c.as_slice-spans.result.now) (tail_is c.args.arms.now (c.loop-index.index + 1)) c.are_apart_from_arms.ensures in
    let test : IsTrue c.are_apart_from_arms.result ↔ All (λ s. All (AreApart s) (flat_map spans_of (map view_arm later))) x.spans.items = subst (λ (ys : List Span). IsTrue c.are_apart_from_arms.result ↔ All (λ s. All (AreApart s) (flat_map spans_of (map view_arm later))) ys) c.as_slice-spans.ensures.value some in
    refuted c.are_apart_from_arms.result c.if-not-are_apart_from_arms.true test c.loop-index.invariant (λ a. ((flat_pairs_drop AreApart view_arm spans_of c.args.arms.now c.loop-index.index x c.loop-index-test.true c.index-arms-index.is).0 a).1)

pub loop-index-preserved : goal.loop-index-preserved
loop-index-preserved c =
    let x = c.index-arms-index.result in
    let later = drop (c.loop-index.index + 1) c.args.arms.now in
    let own : IsTrue c.are_apart.result ↔ AllPairs AreApart x.spans.items = subst (λ (ys : List Span). IsTrue c.are_apart.result ↔ AllPairs AreApart ys) c.as_slice-spans.ensures.value c.are_apart.ensures in
    let some : IsTrue c.are_apart_from_arms.result ↔ All (λ s. All (AreApart s) (flat_map spans_of (map view_arm later))) c.as_slice-spans.result.now = subst (λ (ys : List Arm). IsTrue c.are_apart_from_arms.result ↔ All (λ s. All (AreApart s) (flat_map spans_of (map view_arm ys))) c.as_slice-spans.result.now) (tail_is c.args.arms.now (c.loop-index.index + 1)) c.are_apart_from_arms.ensures in
    let across : IsTrue c.are_apart_from_arms.result ↔ All (λ s. All (AreApart s) (flat_map spans_of (map view_arm later))) x.spans.items = subst (λ (ys : List Span). IsTrue c.are_apart_from_arms.result ↔ All (λ s. All (AreApart s) (flat_map spans_of (map view_arm later))) ys) c.as_slice-spans.ensures.value some in
    let split = flat_pairs_drop AreApart view_arm spans_of c.args.arms.now c.loop-index.index x c.loop-index-test.true c.index-arms-index.is in
    (λ b. c.loop-index.invariant.0 (split.1 (own.0 c.if-not-are_apart.false, across.0 c.if-not-are_apart_from_arms.false, b)), λ w. (split.0 (c.loop-index.invariant.1 w)).2)
