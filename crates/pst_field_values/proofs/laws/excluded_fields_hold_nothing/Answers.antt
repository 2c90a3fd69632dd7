use Rattle.pst_field_values.proofs.Valued.{excluded}
use Rattle.pst_field_values.proofs.laws.excluded_fields_hold_nothing.Goals as goal

pub returns : goal.returns
returns c = excluded
