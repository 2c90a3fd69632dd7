use Rattle.pst_static_answers.proofs.OneAnswer.{answers_one}
use Rattle.pst_static_answers.proofs.laws.static_answers_are_one.Goals as goal

pub returns : goal.returns
returns c = answers_one c.programs_are_safe.ensures.one c.members_are_those.ensures c.groups_are_whole.ensures.whole
