use Rattle.pst_elab_rules.proofs.One.{first_breaches_are_one}
use Rattle.pst_elab_rules.proofs.laws.first_breaches_are_one.Goals as goal

pub returns : goal.returns
returns c = first_breaches_are_one c.places_are_ordered.ensures.never c.places_are_ordered.ensures.on c.instances_are_one.ensures
