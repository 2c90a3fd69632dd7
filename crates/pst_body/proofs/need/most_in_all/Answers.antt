use Rattle.std.proofs.Common.{arith}
use Rattle.std.proofs.lemmas.List.{length-map}
use Rattle.pst_model.specs.ConstraintTree.{view_constraint, view_slot}
use Rattle.pst_body.specs.Ready.{HasRoom}
use Rattle.pst_body.proofs.Rows.{all_from}
use Rattle.pst_body.proofs.need.most_in_all.Goals as goal

pub loop-constraint-preserved : goal.loop-constraint-preserved
loop-constraint-preserved c = λ room fits rest.
    let many = length-map c.constraint-item.result.slots.items view_slot in
    c.loop-constraint.invariant room (omega arith)
    (all_from (HasRoom room) view_constraint c.args.constraints.now c.loop-constraint.constraint-index c.constraint-item.result c.loop-constraint-test.true c.constraint-item.is (omega (arith, many)) rest)
