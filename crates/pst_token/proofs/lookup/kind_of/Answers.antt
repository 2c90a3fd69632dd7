use Rattle.pst_token.proofs.Found.{if_found}
use Rattle.pst_token.proofs.lookup.kind_of.Goals as goal

pub returns-clause-spelled : goal.returns-clause-spelled
returns-clause-spelled c = if_found c.args.text.now c.look_up.result c.look_up.ensures
