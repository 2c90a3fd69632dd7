use Rattle.pst_body_parts.proofs.Rows.{if_is}
use Rattle.pst_body_parts.proofs.single.if_of.Goals as goal

pub returns : goal.returns
returns c = if_is c.args.condition c.args.steps c.args.others
