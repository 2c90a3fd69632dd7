use Rattle.pst_built.proofs.ReachedWhole.{supplied_read, legal_read}
use Rattle.pst_built.proofs.reached_laws.legal_scenarios_are_read.Goals as goal

pub returns-clause-supplied : goal.returns-clause-supplied
returns-clause-supplied c = supplied_read

pub returns-clause-legal : goal.returns-clause-legal
returns-clause-legal c = legal_read
