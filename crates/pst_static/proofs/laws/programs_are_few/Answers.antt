use Rattle.pst_static.proofs.Few.{programs_few}
use Rattle.pst_static.proofs.laws.programs_are_few.Goals as goal

pub returns : goal.returns
returns c = programs_few c.whole_is_sound.ensures.clash c.members_are_those.ensures c.groups_are_whole.ensures.whole
