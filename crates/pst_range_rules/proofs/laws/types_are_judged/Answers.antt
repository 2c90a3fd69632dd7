use Rattle.pst_range_rules.proofs.TypesJudged as judged
use Rattle.pst_range_rules.proofs.laws.types_are_judged.Goals as goal

pub returns : goal.returns
returns c = judged.types_are_judged c.constants_are_found.ensures c.places_are_ordered.ensures.on
