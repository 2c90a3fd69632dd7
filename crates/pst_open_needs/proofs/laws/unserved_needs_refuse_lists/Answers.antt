use Rattle.pst_open_needs.proofs.Unserved.{refuse}
use Rattle.pst_open_needs.proofs.laws.unserved_needs_refuse_lists.Goals as goal

pub returns : goal.returns
returns c = refuse c.longer_lists_keep_what_is_known.ensures c.trees_are_laid_out.ensures
