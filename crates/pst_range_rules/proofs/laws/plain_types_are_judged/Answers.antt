use Rattle.pst_range_rules.proofs.WidthsJudged as judged
use Rattle.pst_range_rules.proofs.laws.plain_types_are_judged.Goals as goal

pub returns : goal.returns
returns c = judged.plain_types_are_judged c.constants_are_found.ensures
