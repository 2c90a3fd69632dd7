use Rattle.std.proofs.Common.{List, subst, arith}
use Rattle.pst_scen.specs.declared.tree.Node.{Node}
use Rattle.pst_scen.specs.Plans.{StandParallel}
use Rattle.pst_nodes.specs.Beside.{AreBeside, BoundsRow}
use Rattle.pst_nodes.proofs.BesideRange.{row_more, stand_beside}
use Rattle.pst_nodes.proofs.beside.first_beside.Goals as goal

pub loop-a-init : goal.loop-a-init
loop-a-init c = λ a below. absurd (omega (arith, below))

pub loop-a-preserved : goal.loop-a-preserved
loop-a-preserved c =
    let s = c.args.scenario.now in
    let bounds = subst (λ (nodes : List Node). BoundsRow c.args.rows.now c.loop-a.a c.bound_of-least.result (AreBeside nodes c.loop-a.a)) c.as_slice-nodes.ensures c.bound_of-least.ensures.bounds in
    row_more c.args.rows.now (StandParallel s) c.loop-a.a c.loop-a.least c.bound_of-least.result c.loop-a.invariant c.bound_of-least.ensures.lower
    (λ b b_in has h. bounds b b_in has (stand_beside s c.loop-a.a b c.requires.one_leaf h))
