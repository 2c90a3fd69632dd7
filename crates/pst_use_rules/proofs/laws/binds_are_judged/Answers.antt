use Rattle.pst_use_rules.proofs.BindsJudged as judged
use Rattle.pst_use_rules.proofs.laws.binds_are_judged.Goals as goal

pub returns : goal.returns
returns c = judged.binds_are_judged c.places_are_ordered.ensures.on
