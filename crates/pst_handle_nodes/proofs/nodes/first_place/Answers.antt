use Rattle.std.proofs.Common.{◌+◌, arith}
use Rattle.pst_handle_nodes.proofs.Children.{behind_it}
use Rattle.pst_handle_nodes.proofs.nodes.first_place.Goals as goal

pub returns-then-parent-nodes-clause-children : goal.returns-then-parent-nodes-clause-children
returns-then-parent-nodes-clause-children c = behind_it c.args.parent 0 (c.args.parent + 1) c.args.nodes.now (omega arith) (c.requires c.if-behind.true)
