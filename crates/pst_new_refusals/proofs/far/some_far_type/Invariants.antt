use Rattle.std.proofs.Common.{◌≡◌, map, drop}
use Rattle.std.specs.List.{list_any}
use Rattle.pst_model.specs.ModelView.{view_action}
use Rattle.pst_new_refusals.specs.Far.{is_far_type}
use Rattle.pst_new_refusals.proofs.far.some_far_type.Given as goal

abbrev pub invariant-loop-kind : goal.invariant-loop-kind
invariant-loop-kind l = list_any is_far_type (map view_action (drop l.kind-index l.kinds)) ≡ list_any is_far_type (map view_action l.kinds)
