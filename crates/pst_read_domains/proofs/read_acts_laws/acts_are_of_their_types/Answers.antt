use Rattle.pst_read_domains.proofs.ReadActsWhole.{acts_of_types}
use Rattle.pst_read_domains.proofs.read_acts_laws.acts_are_of_their_types.Goals as goal

pub returns : goal.returns
returns c = acts_of_types
