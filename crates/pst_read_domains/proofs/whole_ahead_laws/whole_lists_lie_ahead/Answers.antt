use Rattle.pst_read_domains.proofs.Ahead.{whole_ahead}
use Rattle.pst_read_domains.proofs.whole_ahead_laws.whole_lists_lie_ahead.Goals as goal

pub returns : goal.returns
returns c = whole_ahead
