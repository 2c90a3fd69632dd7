use Rattle.pst_front_laws.proofs.Listed.{members_are_listed}
use Rattle.pst_front_laws.proofs.base_laws.members_are_listed.Goals as goal

pub returns : goal.returns
returns c = members_are_listed
