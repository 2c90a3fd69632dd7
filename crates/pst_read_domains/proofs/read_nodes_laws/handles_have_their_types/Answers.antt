use Rattle.pst_read_domains.proofs.Handles.{handles_typed}
use Rattle.pst_read_domains.proofs.read_nodes_laws.handles_have_their_types.Goals as goal

pub returns : goal.returns
returns c = handles_typed c.nodes_stand_for_pieces.ensures.pieces
