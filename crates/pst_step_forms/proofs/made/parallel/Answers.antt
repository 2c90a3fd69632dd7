use Rattle.pst_step_forms.proofs.Rows.{parallel_is}
use Rattle.pst_step_forms.proofs.made.parallel.Goals as goal

pub returns : goal.returns
returns c = parallel_is c.args.steps
