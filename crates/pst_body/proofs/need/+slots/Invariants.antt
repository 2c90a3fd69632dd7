use Rattle.std.proofs.Common.{◌≤◌, ℕ, All, map, drop}
use Rattle.pst_model.specs.ModelView.{view_body_step}
use Rattle.pst_body.specs.Ready.{HasRoomToRun}
use Rattle.pst_body.proofs.need.+slots.Given as goal

-- there is room for all where there is room for those left
abbrev pub invariant-most_in_steps-loop-step : goal.invariant-most_in_steps-loop-step
invariant-most_in_steps-loop-step l = (room : ℕ) → l.most ≤ room → All (HasRoomToRun room) (map view_body_step (drop l.step-index l.steps)) → All (HasRoomToRun room) (map view_body_step l.steps)
