use Rattle.pst_step_forms.proofs.Rows.{schedule_is}
use Rattle.pst_step_forms.proofs.made.schedule.Goals as goal

pub returns : goal.returns
returns c = schedule_is c.args.steps
