use Rattle.pst_read_so_far.proofs.Links.{links_join}
use Rattle.pst_read_so_far.proofs.laws.links_join_open_ends.Goals as goal

pub returns : goal.returns
returns c = links_join
