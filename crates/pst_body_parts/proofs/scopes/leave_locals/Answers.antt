use Rattle.std.proofs.Common.{ap, ◌∙◌}
use Rattle.pst_path_readings.specs.Set.{view_setting}
use Rattle.pst_body_parts.specs.Listed.{without_inner}
use Rattle.pst_body_parts.proofs.Rows.{without_next}
use Rattle.pst_body_parts.proofs.scopes.leave_locals.Goals as goal

pub loop-preserved : goal.loop-preserved
loop-preserved c = c.leave.ensures ∙ ap (without_inner 1) c.loop.invariant ∙ without_next c.loop.counter (view_setting c.args.setting.now)
