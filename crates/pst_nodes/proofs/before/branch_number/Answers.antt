use Rattle.std.proofs.Common.{◌+◌, sym, arith}
use Rattle.pst_nodes.proofs.Branches.{none_early}
use Rattle.pst_nodes.proofs.before.branch_number.Goals as goal

pub loop-n-init : goal.loop-n-init
loop-n-init c =
    let order = c.requires.order in
    let within = c.requires.branch_in in
    record { is = sym (none_early c.args.nodes.now c.args.block (c.args.block + 1) c.requires.preorder (omega arith) (omega (arith, order, within))); few = omega arith }
