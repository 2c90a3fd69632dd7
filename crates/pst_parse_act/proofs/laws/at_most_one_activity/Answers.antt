use Rattle.pst_parse_act.proofs.ActivityAnswering.{one_activity}
use Rattle.pst_parse_act.proofs.laws.at_most_one_activity.Goals as goal

pub returns : goal.returns
returns c = one_activity
