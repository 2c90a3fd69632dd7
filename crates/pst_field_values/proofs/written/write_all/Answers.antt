use Rattle.std.proofs.Common.{map, Contains}
use Rattle.pst_model.specs.ConstraintTree.{view_constraint}
use Rattle.pst_written_constraints.proofs.Sites.{viewed}
use Rattle.pst_field_values.proofs.written.write_all.Goals as goal

pub write_constraint-requires-clause-lasts : goal.write_constraint-requires-clause-lasts
write_constraint-requires-clause-lasts c =
    let inside : Contains (map view_constraint c.args.constraints.now) (view_constraint c.constraint-item.result) =
    viewed view_constraint c.args.constraints.now c.loop-constraint.constraint-index c.constraint-item.result c.loop-constraint-test.true c.constraint-item.is in
    λ t later. c.requires.last (view_constraint c.constraint-item.result) inside t later
