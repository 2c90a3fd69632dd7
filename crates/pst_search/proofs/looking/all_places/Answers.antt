use Rattle.std.proofs.Common.{subst}
use Rattle.pst_search_loop.specs.Conflicts.{IsEarlier}
use Rattle.pst_search.proofs.looking.all_places.Goals as goal

pub returns : goal.returns
returns c = subst (IsEarlier c.earlier-all.result) c.in_ok-count.ensures c.earlier-all.ensures
