use Rattle.std.proofs.Common.{◌≡◌, ◌++◌, map, drop}
use Rattle.pst_model.specs.ModelView.{view_action}
use Rattle.pst_new_refusals.specs.Named.{named_of, rows}
use Rattle.pst_new_refusals.proofs.far.named_by.Given as goal

abbrev pub invariant-loop-kind : goal.invariant-loop-kind
invariant-loop-kind l = rows l.found.items ++ map named_of (map view_action (drop l.kind-index l.kinds)) ≡ map named_of (map view_action l.kinds)
