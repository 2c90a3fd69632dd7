use Rattle.pst_built.proofs.Read.{places_on, past_options}
use Rattle.pst_built.proofs.longer_laws.places_go_on.Goals as goal

pub returns-clause-places : goal.returns-clause-places
returns-clause-places c = places_on

pub returns-clause-options : goal.returns-clause-options
returns-clause-options c = past_options
