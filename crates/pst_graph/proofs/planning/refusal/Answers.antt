use Rattle.std.proofs.Common.{List, sym, subst}
use Rattle.pst_scen.specs.declared.tree.Node.{Node}
use Rattle.pst_nodes.specs.Tables.{AreNodesNumbered}
use Rattle.pst_nodes.proofs.LeafNumbers.{built_numbered}
use Rattle.pst_graph.proofs.planning.refusal.Goals as goal

pub new-requires-clause-numbered : goal.new-requires-clause-numbered
new-requires-clause-numbered c = subst (λ (nodes : List Node). AreNodesNumbered nodes) (sym c.as_slice.ensures) (built_numbered c.args.scenario.now c.requires.built)
