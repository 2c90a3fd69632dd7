use Rattle.std.proofs.Common.{◌≡◌, drop, map}
use Rattle.pst_model.specs.ModelView.{view_step}
use Rattle.pst_legal.specs.Statements.{way_in}
use Rattle.pst_handle_nodes.proofs.ways.+ways.Given as goal

abbrev pub invariant-find_in-loop-step : goal.invariant-find_in-loop-step
invariant-find_in-loop-step l = (l.index ≡ l.step-index) × (l.way.items ≡ l.initial.way.items) × (way_in l.handle l.step-index (map view_step (drop l.step-index l.steps)) ≡ way_in l.handle 0 (map view_step l.steps))
