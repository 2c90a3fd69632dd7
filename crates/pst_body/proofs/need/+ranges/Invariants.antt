use Rattle.std.proofs.Common.{◌≡◌, ◌++◌, map, drop}
use Rattle.std.specs.List.{flat_map}
use Rattle.pst_model.specs.ModelView.{view_body_step}
use Rattle.pst_legal.specs.Body.{ranges_in}
use Rattle.pst_body.proofs.need.+ranges.Given as goal

abbrev pub invariant-add_ranges-loop-step : goal.invariant-add_ranges-loop-step
invariant-add_ranges-loop-step l = l.ranges.items ++ flat_map ranges_in (map view_body_step (drop l.step-index l.steps)) ≡ l.initial.ranges.items ++ flat_map ranges_in (map view_body_step l.steps)
