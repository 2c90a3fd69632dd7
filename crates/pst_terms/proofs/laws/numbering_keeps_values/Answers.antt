use Rattle.pst_terms.proofs.Numbering.{numbered_value}
use Rattle.pst_terms.proofs.laws.numbering_keeps_values.Goals as goal

pub returns : goal.returns
returns c = numbered_value
