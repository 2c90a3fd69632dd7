use Rattle.std.proofs.Common.{◌↔◌, All, drop, map}
use Rattle.pst_sound_parts.specs.Depth.{depth}
use Rattle.pst_model.specs.ModelView.{view_model, view_action, view_body_step}
use Rattle.pst_model.specs.SoundBody.{IsSoundBodyStep, EachBodyStep}
use Rattle.pst_sound_parts.proofs.bodies.+steps.Given as goal

-- all are sound where those left are
abbrev pub invariant-are_sound_steps-loop-step : goal.invariant-are_sound_steps-loop-step
invariant-are_sound_steps-loop-step l = All (EachBodyStep (IsSoundBodyStep (view_model l.model) (view_action l.action) l.locals) (depth l.repeats)) (map view_body_step (drop l.step-index l.steps)) ↔ All (EachBodyStep (IsSoundBodyStep (view_model l.model) (view_action l.action) l.locals) (depth l.repeats)) (map view_body_step l.steps)
