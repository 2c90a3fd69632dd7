use Rattle.pst_tree.proofs.InheritedFound.{members_are_found}
use Rattle.pst_tree.proofs.inherited_laws.members_are_found.Goals as goal

pub returns : goal.returns
returns c = members_are_found
