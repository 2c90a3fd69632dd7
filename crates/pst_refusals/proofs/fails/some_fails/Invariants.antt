use Rattle.std.proofs.Common.{◌≡◌, map, drop}
use Rattle.std.specs.List.{list_any}
use Rattle.pst_model.specs.ConstraintTree.{view_constraint}
use Rattle.pst_slots.specs.Listed.{stating}
use Rattle.pst_refusals.specs.Failing.{fails}
use Rattle.pst_refusals.proofs.fails.some_fails.Given as goal

abbrev pub invariant-loop-constraint : goal.invariant-loop-constraint
invariant-loop-constraint g l = list_any (fails l.by_values) (map (stating (g.S.Site.standing l.site)) (map view_constraint (drop l.constraint-index l.constraints))) ≡ list_any (fails l.by_values) (map (stating (g.S.Site.standing l.site)) (map view_constraint l.constraints))
