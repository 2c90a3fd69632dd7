use Rattle.pst_use_rules.proofs.ExpressionsJudged as judged
use Rattle.pst_use_rules.proofs.laws.expressions_are_judged.Goals as goal

pub returns : goal.returns
returns c = judged.expressions_are_judged c.places_are_ordered.ensures.on c.constants_are_found.ensures
