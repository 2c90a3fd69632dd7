use Rattle.pst_handle_nodes.proofs.Children.{earlier_are_behind}
use Rattle.pst_known.proofs.ways.node_behind.Goals as goal

pub node_behind-requires : goal.node_behind-requires
node_behind-requires c = λ _. earlier_are_behind c.args.scene.now.nodes.now c.args.scene.now.earlier
