use Rattle.std.proofs.Common.{◌≡◌}
use Rattle.pst_path_readings.specs.Set.{view_setting}
use Rattle.pst_body_parts.specs.Listed.{without_inner}
use Rattle.pst_body_parts.proofs.scopes.leave_locals.Given as goal

abbrev pub invariant-loop : goal.invariant-loop
invariant-loop l = view_setting l.setting ≡ without_inner l.counter (view_setting l.initial.setting)
