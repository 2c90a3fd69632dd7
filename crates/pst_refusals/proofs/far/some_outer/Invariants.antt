use Rattle.std.proofs.Common.{◌≡◌, map, drop}
use Rattle.std.specs.List.{list_any}
use Rattle.pst_model.specs.ConstraintTree.{view_constraint}
use Rattle.pst_refusals.specs.Inlines.{is_outer}
use Rattle.pst_refusals.proofs.far.some_outer.Given as goal

abbrev pub invariant-loop-constraint : goal.invariant-loop-constraint
invariant-loop-constraint l = list_any is_outer (map view_constraint (drop l.constraint-index l.constraints)) ≡ list_any is_outer (map view_constraint l.constraints)
