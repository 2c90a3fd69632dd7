use Rattle.std.proofs.Common.{◌≡◌, map, drop}
use Rattle.std.specs.List.{list_any}
use Rattle.pst_model.specs.ModelView.{view_action}
use Rattle.pst_refusals.specs.declared.inlines.Sought.TheVariants as sought
use Rattle.pst_refusals.specs.Inlines.{type_has}
use Rattle.pst_refusals.proofs.inlines.some_type_has.Given as goal

abbrev pub invariant-loop-kind : goal.invariant-loop-kind
invariant-loop-kind l = list_any (type_has sought.Any) (map view_action (drop l.kind-index l.kinds)) ≡ list_any (type_has sought.Any) (map view_action l.kinds)
