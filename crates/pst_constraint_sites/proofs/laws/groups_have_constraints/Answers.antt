use Rattle.pst_constraint_sites.proofs.Has.{have}
use Rattle.pst_constraint_sites.proofs.laws.groups_have_constraints.Goals as goal

pub returns : goal.returns
returns c = have
