use Rattle.std.proofs.Common.{◌≤◌, ◌+◌, ◌*◌, map}
use Rattle.pst_model.specs.ModelView.{view_body_step}
use Rattle.pst_body.specs.Sites.{place_of}
use Rattle.pst_body.proofs.Steps.{Stepping, Turning}
use Rattle.pst_body.proofs.Sizes.{size, sizes}
use Rattle.pst_body.proofs.step.+steps.Given as goal

abbrev pub invariant-run_steps-loop-step : goal.invariant-run_steps-loop-step
invariant-run_steps-loop-step g l = Stepping (place_of l.site l.turns) l.steps l.step-index l.fn.memory l.memory (g.T.Target.calls l.fn.lane) (g.T.Target.calls l.lane) (g.T.Target.faults l.fn.lane) (g.T.Target.faults l.lane)

abbrev pub invariant-run_turns-turns : goal.invariant-run_turns-turns
invariant-run_turns-turns g l = record {
  going : Turning (place_of l.site l.turns) (map view_body_step l.body) l.count l.index l.left l.fn.memory l.memory (g.T.Target.calls l.fn.lane) (g.T.Target.calls l.lane) (g.T.Target.faults l.fn.lane) (g.T.Target.faults l.lane);
  index : l.index ≤ l.memory.count;
}

abbrev pub decreases-run_turns-turns : goal.decreases-run_turns-turns
decreases-run_turns-turns g l = l.left

abbrev pub decreases-run_step : goal.decreases-run_step
decreases-run_step g l = 4 * size (view_body_step l.step.now) + 1

abbrev pub decreases-run_begun : goal.decreases-run_begun
decreases-run_begun g l = 4 * size (view_body_step l.step.now)

abbrev pub decreases-run_turns : goal.decreases-run_turns
decreases-run_turns g l = 4 * sizes (map view_body_step l.body.now) + 3

abbrev pub decreases-run_steps : goal.decreases-run_steps
decreases-run_steps g l = 4 * sizes (map view_body_step l.steps.now) + 2
