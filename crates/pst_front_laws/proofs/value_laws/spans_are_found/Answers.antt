use Rattle.pst_front_laws.proofs.Spans.{spans_are_found}
use Rattle.pst_front_laws.proofs.value_laws.spans_are_found.Goals as goal

pub returns : goal.returns
returns c = spans_are_found
