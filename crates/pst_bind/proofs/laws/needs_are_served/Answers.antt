use Rattle.pst_bind.proofs.Serves.{is_served}
use Rattle.pst_bind.proofs.laws.needs_are_served.Goals as goal

pub returns : goal.returns
returns c = λ units instances n none is. is_served units instances n none is
