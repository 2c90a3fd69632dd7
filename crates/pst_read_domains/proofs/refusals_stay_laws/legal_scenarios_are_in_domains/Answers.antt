use Rattle.pst_read_domains.proofs.Domains.{legal_in_domains}
use Rattle.pst_read_domains.proofs.refusals_stay_laws.legal_scenarios_are_in_domains.Goals as goal

pub returns : goal.returns
returns c = legal_in_domains
