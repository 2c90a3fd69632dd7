use Rattle.std.proofs.Common.{◌≡◌, drop, map}
use Rattle.std.specs.List.{flat_map}
use Rattle.pst_model.specs.ModelView.{view_body_step}
use Rattle.pst_model.specs.SoundBody.{locals_in}
use Rattle.pst_sound_parts.specs.Numbered.{behind_locals}
use Rattle.pst_sound_parts.proofs.bodies.+locals.Given as goal

abbrev pub invariant-behind_steps-loop-step : goal.invariant-behind_steps-loop-step
invariant-behind_steps-loop-step l = behind_locals l.last (flat_map locals_in (map view_body_step (drop l.step-index l.steps))) ≡ behind_locals l.fn.next (flat_map locals_in (map view_body_step l.steps))
