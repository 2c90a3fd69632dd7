use Rattle.std.proofs.Common.{◌≤◌, ℕ, All, map, drop}
use Rattle.pst_model.specs.ConstraintTree.{view_constraint}
use Rattle.pst_body.specs.Ready.{HasRoom}
use Rattle.pst_body.proofs.need.most_in_all.Given as goal

-- there is room for all where there is room for those left
abbrev pub invariant-loop-constraint : goal.invariant-loop-constraint
invariant-loop-constraint l = (room : ℕ) → l.most ≤ room → All (HasRoom room) (map view_constraint (drop l.constraint-index l.constraints)) → All (HasRoom room) (map view_constraint l.constraints)
