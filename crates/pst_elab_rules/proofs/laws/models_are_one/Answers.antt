use Rattle.pst_elab_rules.proofs.One.{models_are_one}
use Rattle.pst_elab_rules.proofs.laws.models_are_one.Goals as goal

pub returns : goal.returns
returns c = models_are_one c.constants_are_one.ensures c.types_have_one_domain.ensures c.instances_are_one.ensures
