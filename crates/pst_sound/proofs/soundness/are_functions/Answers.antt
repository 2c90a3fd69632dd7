use Rattle.pst_model.specs.ModelView.{view_function}
use Rattle.pst_model.specs.Sound.{IsSoundFunction}
use Rattle.pst_sound_parts.proofs.Pairs.{viewed_drop, refuted, kept}
use Rattle.pst_sound.proofs.soundness.are_functions.Goals as goal

pub returns-then-not-is_sound_function : goal.returns-then-not-is_sound_function
returns-then-not-is_sound_function c = refuted c.is_sound_function.result c.if-not-is_sound_function.true c.is_sound_function.ensures c.loop-function.invariant (λ a. ((viewed_drop IsSoundFunction view_function c.args.functions.now c.loop-function.function-index c.function-item.result c.loop-function-test.true c.function-item.is).0 a).0)

pub loop-function-preserved : goal.loop-function-preserved
loop-function-preserved c = kept c.is_sound_function.result c.if-not-is_sound_function.false c.is_sound_function.ensures c.loop-function.invariant (viewed_drop IsSoundFunction view_function c.args.functions.now c.loop-function.function-index c.function-item.result c.loop-function-test.true c.function-item.is)
