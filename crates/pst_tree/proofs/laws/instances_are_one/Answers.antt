use Rattle.pst_tree.proofs.One.{instances_are_one}
use Rattle.pst_tree.proofs.laws.instances_are_one.Goals as goal

pub returns : goal.returns
returns c = instances_are_one
