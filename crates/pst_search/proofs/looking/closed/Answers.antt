use Rattle.pst_search.proofs.Looks.{closes}
use Rattle.pst_search.proofs.looking.closed.Goals as goal

pub returns : goal.returns
returns c = closes c.args.lists.now c.barren_lists_conflict.ensures c.requires c.in_ok-all.all c.in_ok-all.ensures
