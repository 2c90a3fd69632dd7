use Rattle.pst_programs.proofs.Holding.{safe_prefix, safe_goes_on, safe_whole, safe_short}
use Rattle.pst_programs.proofs.laws.machine_is_safe.Goals as goal

pub returns-clause-prefix : goal.returns-clause-prefix
returns-clause-prefix c = safe_prefix c.whole_is_sound.ensures.clash c.whole_is_sound.ensures.inside c.members_are_those.ensures c.groups_are_whole.ensures.whole c.rule_is_prefix.ensures

pub returns-clause-goes_on : goal.returns-clause-goes_on
returns-clause-goes_on c = safe_goes_on c.whole_is_sound.ensures.clash c.whole_is_sound.ensures.inside c.members_are_those.ensures c.groups_are_whole.ensures.whole

pub returns-clause-whole : goal.returns-clause-whole
returns-clause-whole c = safe_whole c.whole_is_sound.ensures.clash c.whole_is_sound.ensures.inside c.members_are_those.ensures c.groups_are_whole.ensures.whole

pub returns-clause-short : goal.returns-clause-short
returns-clause-short c = safe_short c.whole_is_sound.ensures.clash c.whole_is_sound.ensures.inside c.members_are_those.ensures c.groups_are_whole.ensures.whole c.rule_fits.ensures.few
