use Rattle.pst_constraint_sites.proofs.Grouped.{group}
use Rattle.pst_constraint_sites.proofs.laws.constraints_are_grouped.Goals as goal

pub returns : goal.returns
returns c = group
