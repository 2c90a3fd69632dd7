use Rattle.pst_model.specs.ModelView.{view_model, view_action}
use Rattle.pst_model.specs.Sound.{IsSoundAction}
use Rattle.pst_sound_parts.proofs.Pairs.{viewed_drop, refuted, kept}
use Rattle.pst_sound.proofs.soundness.are_actions.Goals as goal

pub returns-then-not-is_sound_action : goal.returns-then-not-is_sound_action
returns-then-not-is_sound_action c = refuted c.is_sound_action.result c.if-not-is_sound_action.true c.is_sound_action.ensures c.loop-action.invariant (λ a. ((viewed_drop (IsSoundAction (view_model c.args.model.now)) view_action c.args.actions.now c.loop-action.action-index c.action-item.result c.loop-action-test.true c.action-item.is).0 a).0)

pub loop-action-preserved : goal.loop-action-preserved
loop-action-preserved c = kept c.is_sound_action.result c.if-not-is_sound_action.false c.is_sound_action.ensures c.loop-action.invariant (viewed_drop (IsSoundAction (view_model c.args.model.now)) view_action c.args.actions.now c.loop-action.action-index c.action-item.result c.loop-action-test.true c.action-item.is)
