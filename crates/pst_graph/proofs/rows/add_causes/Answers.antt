use Rattle.std.proofs.Common.{List, sym, subst}
use Rattle.pst_scen.specs.declared.tree.Node.{Node}
use Rattle.pst_square.specs.Squares.{Adds}
use Rattle.pst_nodes.specs.Tables.{AreNodesNumbered, StandsBefore}
use Rattle.pst_nodes.proofs.LeafNumbers.{built_numbered}
use Rattle.pst_graph.proofs.DirectRows.{causes_added}
use Rattle.pst_graph.proofs.rows.add_causes.Goals as goal

pub new-requires-clause-numbered : goal.new-requires-clause-numbered
new-requires-clause-numbered c = subst (λ (nodes : List Node). AreNodesNumbered nodes) (sym c.as_slice-nodes.ensures) (built_numbered c.args.scenario.now c.requires.built)

pub add_behinds-requires-clause-numbered : goal.add_behinds-requires-clause-numbered
add_behinds-requires-clause-numbered c = subst (λ (nodes : List Node). AreNodesNumbered nodes) (sym c.as_slice-nodes.ensures) (built_numbered c.args.scenario.now c.requires.built)

pub returns : goal.returns
returns c =
    causes_added c.args.scenario.now c.args.square.now c.add_behinds.new.square c.add_named.new.square c.add_replaced.new.square c.requires.built c.requires.size
    (subst (λ (nodes : List Node). Adds c.args.square.now c.add_behinds.new.square (StandsBefore nodes)) c.as_slice-nodes.ensures c.add_behinds.ensures)
    c.add_named.ensures c.in_ok-add_replaced.ensures
