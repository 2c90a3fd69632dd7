use Rattle.pst_read_domains.proofs.Fails.{refused_not, wider_not}
use Rattle.pst_read_domains.proofs.refusals_stay_laws.refused_does_not_hold.Goals as goal

pub returns-clause-own : goal.returns-clause-own
returns-clause-own c = refused_not c.spans_hold_values.ensures

pub returns-clause-wider : goal.returns-clause-wider
returns-clause-wider c = wider_not c.spans_hold_values.ensures
