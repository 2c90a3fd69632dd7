use Rattle.pst_field_places.proofs.Values.{fields_places}
use Rattle.pst_field_places.proofs.laws.fields_are_places.Goals as goal

pub returns : goal.returns
returns c = fields_places
