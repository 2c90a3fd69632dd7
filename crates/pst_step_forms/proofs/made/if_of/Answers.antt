use Rattle.pst_step_forms.proofs.Rows.{if_is}
use Rattle.pst_step_forms.proofs.made.if_of.Goals as goal

pub returns : goal.returns
returns c = if_is c.args.condition c.args.step c.args.other
