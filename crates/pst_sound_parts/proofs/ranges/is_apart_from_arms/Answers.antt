use Rattle.std.proofs.Common.{IsTrue, ◌↔◌, All, List, subst}
use Rattle.pst_expr.specs.declared.ranges.Span.{Span}
use Rattle.pst_model.specs.ActivityTree.{spans_of}
use Rattle.pst_model.specs.ModelView.{view_arm}
use Rattle.pst_model.specs.SoundActivity.{AreApart}
use Rattle.pst_sound_parts.proofs.Pairs.{all_drop, refuted, kept}
use Rattle.pst_sound_parts.proofs.ranges.is_apart_from_arms.Goals as goal

pub returns-then-not-is_apart_from : goal.returns-then-not-is_apart_from
returns-then-not-is_apart_from c =
    let test : IsTrue c.is_apart_from.result ↔ All (AreApart c.args.one) c.arm-item.result.spans.items = subst (λ (ys : List Span). IsTrue c.is_apart_from.result ↔ All (AreApart c.args.one) ys) c.as_slice.ensures.value c.is_apart_from.ensures in
    refuted c.is_apart_from.result c.if-not-is_apart_from.true test c.loop-arm.invariant (λ a. ((all_drop (AreApart c.args.one) view_arm spans_of c.args.arms.now c.loop-arm.arm-index c.arm-item.result c.loop-arm-test.true c.arm-item.is).0 a).0)

pub loop-arm-preserved : goal.loop-arm-preserved
loop-arm-preserved c =
    let test : IsTrue c.is_apart_from.result ↔ All (AreApart c.args.one) c.arm-item.result.spans.items = subst (λ (ys : List Span). IsTrue c.is_apart_from.result ↔ All (AreApart c.args.one) ys) c.as_slice.ensures.value c.is_apart_from.ensures in
    kept c.is_apart_from.result c.if-not-is_apart_from.false test c.loop-arm.invariant (all_drop (AreApart c.args.one) view_arm spans_of c.args.arms.now c.loop-arm.arm-index c.arm-item.result c.loop-arm-test.true c.arm-item.is)
