use Rattle.pst_step_forms.proofs.Rows.{select_is}
use Rattle.pst_step_forms.proofs.made.select.Goals as goal

pub returns : goal.returns
returns c = select_is c.args.branches
