use Rattle.pst_front_laws.proofs.Ranges.{ranges_are_found}
use Rattle.pst_front_laws.proofs.value_laws.ranges_are_found.Goals as goal

pub returns : goal.returns
returns c = ranges_are_found
