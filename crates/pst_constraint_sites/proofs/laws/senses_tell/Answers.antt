use Rattle.pst_constraint_sites.proofs.Told.{tell}
use Rattle.pst_constraint_sites.proofs.laws.senses_tell.Goals as goal

pub returns : goal.returns
returns c = tell
