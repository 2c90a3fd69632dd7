use Rattle.pst_field_places.proofs.Values.{fields_values}
use Rattle.pst_field_places.proofs.laws.fields_have_values.Goals as goal

pub returns : goal.returns
returns c = fields_values
