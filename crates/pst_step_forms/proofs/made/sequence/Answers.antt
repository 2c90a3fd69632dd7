use Rattle.pst_step_forms.proofs.Rows.{sequence_is}
use Rattle.pst_step_forms.proofs.made.sequence.Goals as goal

pub returns : goal.returns
returns c = sequence_is c.args.steps
