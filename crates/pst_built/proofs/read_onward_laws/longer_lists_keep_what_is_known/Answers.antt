use Rattle.pst_built.proofs.Longer.{longer_onward}
use Rattle.pst_built.proofs.read_onward_laws.longer_lists_keep_what_is_known.Goals as goal

pub returns : goal.returns
returns c = longer_onward
