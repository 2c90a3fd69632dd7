use Rattle.std.proofs.Common.{◌+◌, arith}
use Rattle.pst_refusals.proofs.Counting.{rising}
use Rattle.pst_refusals.proofs.places.count_between.Goals as goal

pub returns-then-parent-n : goal.returns-then-parent-n
returns-then-parent-n c =
    let past = c.if-parent-n.true in
    let few = rising c.args.nodes.now c.args.parent c.args.n (c.args.parent + 1) (omega (arith, past)) in
    omega (arith, few)
