use Rattle.pst_body_parts.proofs.Rows.{repeat_is}
use Rattle.pst_body_parts.proofs.single.repeat_of.Goals as goal

pub returns : goal.returns
returns c = repeat_is c.args.count c.args.steps
