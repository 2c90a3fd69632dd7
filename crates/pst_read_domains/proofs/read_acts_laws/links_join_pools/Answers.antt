use Rattle.pst_read_domains.proofs.Joined.{links_join}
use Rattle.pst_read_domains.proofs.read_acts_laws.links_join_pools.Goals as goal

pub returns : goal.returns
returns c = links_join
