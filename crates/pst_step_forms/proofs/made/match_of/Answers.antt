use Rattle.pst_step_forms.proofs.Rows.{match_is}
use Rattle.pst_step_forms.proofs.made.match_of.Goals as goal

pub returns : goal.returns
returns c = match_is c.args.value c.args.found.arms c.args.found.other
