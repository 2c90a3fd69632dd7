use Rattle.pst_type_rules.proofs.OneValue.{value_is_one}
use Rattle.pst_type_rules.proofs.constants_laws.expressions_have_one_value.Goals as goal

pub returns : goal.returns
returns c = value_is_one
