use Rattle.pst_built.proofs.Alike.{alike}
use Rattle.pst_built.proofs.order_stays_laws.plans_look_at_no_value.Goals as goal

pub returns : goal.returns
returns c = alike
