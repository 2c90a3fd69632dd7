use Rattle.std.proofs.Common.{IsTrue, map, sym, ◌∙◌}
use Rattle.pst_model.specs.ModelView.{view_model, view_action, view_body_step}
use Rattle.pst_sound_parts.proofs.Locals.{sound_body, unsound_body}
use Rattle.pst_sound_parts.proofs.bodies.is_sound_body.Goals as goal

pub returns-in-Some : goal.returns-in-Some
returns-in-Some c = sound_body (view_model c.args.model.now) (view_action c.args.action.now) (map view_body_step c.args.body.now) (IsTrue c.are_sound_steps.result) c.in-Some.locals (sym c.behind_steps.ensures ∙ c.in-Some.is) c.are_sound_steps.ensures

pub returns-in-None : goal.returns-in-None
returns-in-None c = (λ h. absurd cc, λ s. absurd (unsound_body (view_model c.args.model.now) (view_action c.args.action.now) (map view_body_step c.args.body.now) (sym c.behind_steps.ensures ∙ c.in-None.is) s))
