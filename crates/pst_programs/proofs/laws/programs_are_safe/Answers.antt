use Rattle.pst_programs.proofs.Open.{order_goes_on}
use Rattle.pst_programs.proofs.OnlyOne.{one_programs}
use Rattle.pst_programs.proofs.Holding.{programs_safe, runs_once}
use Rattle.pst_programs.proofs.laws.programs_are_safe.Goals as goal

pub returns : goal.returns
returns c = record { goes_on = order_goes_on c.whole_is_sound.ensures.cycle c.must_keeps_groups.ensures c.members_are_those.ensures c.groups_are_whole.ensures.whole; one = λ p lanes one other a b. one_programs p lanes one other a b; safe = programs_safe c.members_are_those.ensures c.groups_are_whole.ensures.whole; once = runs_once }
