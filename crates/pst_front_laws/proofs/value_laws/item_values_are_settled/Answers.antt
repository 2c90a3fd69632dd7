use Rattle.pst_front_laws.proofs.Items.{item_values_are_settled}
use Rattle.pst_front_laws.proofs.value_laws.item_values_are_settled.Goals as goal

pub returns : goal.returns
returns c = item_values_are_settled
