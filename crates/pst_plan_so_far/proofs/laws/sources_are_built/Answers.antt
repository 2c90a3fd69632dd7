use Rattle.pst_plan_so_far.proofs.Behind.{sources_built}
use Rattle.pst_plan_so_far.proofs.laws.sources_are_built.Goals as goal

pub returns : goal.returns
returns c = sources_built
