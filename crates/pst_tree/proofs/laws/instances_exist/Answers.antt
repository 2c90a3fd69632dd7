use Rattle.pst_tree.proofs.Existing.{instances_exist}
use Rattle.pst_tree.proofs.laws.instances_exist.Goals as goal

pub returns : goal.returns
returns c = instances_exist
