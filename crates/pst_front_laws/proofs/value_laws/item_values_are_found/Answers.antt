use Rattle.pst_front_laws.proofs.Items.{item_values_are_found}
use Rattle.pst_front_laws.proofs.value_laws.item_values_are_found.Goals as goal

pub returns : goal.returns
returns c = item_values_are_found c.expressions_have_one_value.ensures
