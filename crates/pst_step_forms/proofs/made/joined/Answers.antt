use Rattle.pst_step_forms.proofs.Rows.{joined_is}
use Rattle.pst_step_forms.proofs.made.joined.Goals as goal

pub returns : goal.returns
returns c = joined_is c.args.parallel c.args.join c.args.steps
