use Rattle.pst_read_domains.proofs.ReadNodesWhole.{some_stand, read_leaves}
use Rattle.pst_read_domains.proofs.read_nodes_laws.nodes_stand_for_pieces.Goals as goal

pub returns-clause-pieces : goal.returns-clause-pieces
returns-clause-pieces c = some_stand

pub returns-clause-leaves : goal.returns-clause-leaves
returns-clause-leaves c = read_leaves
