use Rattle.std.proofs.Common.{◌≡◌, map, drop}
use Rattle.std.specs.List.{list_any}
use Rattle.pst_model.specs.ConstraintTree.{view_constraint}
use Rattle.pst_new_refusals.specs.Settled.{looks_behind}
use Rattle.pst_new_refusals.proofs.looking.some_looks.Given as goal

abbrev pub invariant-loop-constraint : goal.invariant-loop-constraint
invariant-loop-constraint l = list_any (looks_behind l.handle) (map view_constraint (drop l.constraint-index l.inline)) ≡ list_any (looks_behind l.handle) (map view_constraint l.inline)
