use Rattle.pst_tree.proofs.Preorder.{instances_are_in_preorder}
use Rattle.pst_tree.proofs.laws.instances_are_in_preorder.Goals as goal

pub returns : goal.returns
returns c = instances_are_in_preorder
