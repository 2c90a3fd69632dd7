use Rattle.pst_range_rules.proofs.ArmsJudged as judged
use Rattle.pst_range_rules.proofs.laws.arms_are_judged.Goals as goal

pub returns : goal.returns
returns c = judged.arms_are_judged c.constants_are_found.ensures c.places_are_ordered.ensures.on
