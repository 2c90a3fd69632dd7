use Rattle.std.proofs.Common.{ℕ, List, sym, subst, ◌+◌}
use Rattle.pst_nodes.specs.Tables.{AreLeaves}
use Rattle.pst_nodes.proofs.Leaves.{leaf_pushed}
use Rattle.pst_nodes.proofs.tables.push_leaf.Goals as goal

pub returns-in_ok-push : goal.returns-in_ok-push
returns-in_ok-push c =
    subst (λ (items : List ℕ). AreLeaves c.args.nodes.now items (c.args.n + 1)) (sym c.in_ok-push.ensures.items)
    (leaf_pushed c.args.nodes.now c.args.leaves.now.items c.args.n c.index-nodes-n.result c.requires.numbered c.requires.n_in c.requires.before (sym c.if-is_leaf.ensures))
