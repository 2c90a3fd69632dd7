use Rattle.std.proofs.Common.{◌≡◌, ◌≤◌}
use Rattle.pst_scen.specs.Tree.{branch_of}
use Rattle.pst_nodes.proofs.before.branch_number.Given as goal

abbrev pub invariant-loop-n : goal.invariant-loop-n
invariant-loop-n l = record { is : l.count ≡ branch_of l.nodes l.block l.n; few : l.count ≤ l.n }
