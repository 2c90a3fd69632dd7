use Rattle.std.proofs.Common.{◌≡◌, ◌++◌, map, drop}
use Rattle.std.specs.List.{flat_map}
use Rattle.pst_model.specs.ConstraintTree.{view_constraint}
use Rattle.pst_new_refusals.specs.Named.{named_by}
use Rattle.pst_new_refusals.proofs.named.add_inline.Given as goal

abbrev pub invariant-loop-constraint : goal.invariant-loop-constraint
invariant-loop-constraint l = l.found.items ++ flat_map named_by (map view_constraint (drop l.constraint-index l.inline)) ≡ l.initial.found.items ++ flat_map named_by (map view_constraint l.inline)
