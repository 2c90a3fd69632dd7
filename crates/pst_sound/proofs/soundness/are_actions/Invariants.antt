use Rattle.std.proofs.Common.{◌↔◌, All, drop, map}
use Rattle.pst_model.specs.ModelView.{view_model, view_action}
use Rattle.pst_model.specs.Sound.{IsSoundAction}
use Rattle.pst_sound.proofs.soundness.are_actions.Given as goal

-- all are sound where those left are
abbrev pub invariant-loop-action : goal.invariant-loop-action
invariant-loop-action l = All (IsSoundAction (view_model l.model)) (map view_action (drop l.action-index l.actions)) ↔ All (IsSoundAction (view_model l.model)) (map view_action l.actions)
