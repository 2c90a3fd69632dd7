use Rattle.pst_model.specs.ModelView.{view_object}
use Rattle.pst_model.specs.Sound.{IsSoundObject}
use Rattle.pst_sound_parts.proofs.Pairs.{viewed_drop, refuted, kept}
use Rattle.pst_sound.proofs.soundness.are_objects.Goals as goal

pub returns-then-not-is_sound_object : goal.returns-then-not-is_sound_object
returns-then-not-is_sound_object c = refuted c.is_sound_object.result c.if-not-is_sound_object.true c.is_sound_object.ensures c.loop-object.invariant (λ a. ((viewed_drop IsSoundObject view_object c.args.objects.now c.loop-object.object-index c.object-item.result c.loop-object-test.true c.object-item.is).0 a).0)

pub loop-object-preserved : goal.loop-object-preserved
loop-object-preserved c = kept c.is_sound_object.result c.if-not-is_sound_object.false c.is_sound_object.ensures c.loop-object.invariant (viewed_drop IsSoundObject view_object c.args.objects.now c.loop-object.object-index c.object-item.result c.loop-object-test.true c.object-item.is)
