use Rattle.pst_type_rules.proofs.OneValue.{item_value_is_one}
use Rattle.pst_type_rules.proofs.constants_laws.items_have_one_value.Goals as goal

pub returns : goal.returns
returns c = item_value_is_one
