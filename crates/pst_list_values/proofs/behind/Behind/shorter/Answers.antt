use Rattle.std.proofs.Common.{refl, subst}
use Rattle.pst_list_values.specs.Tied.{HasGiven}
use Rattle.pst_list_values.proofs.Steps.{less_none, less_some}
use Rattle.pst_list_values.proofs.behind.Behind.shorter.Goals as goal

pub take_back-requires : goal.take_back-requires
take_back-requires c = subst HasGiven c.in-Some.is c.requires

pub returns-in-None : goal.returns-in-None
returns-in-None c = (refl, refl, less_none c.args.self.valued c.in-None.is)

pub returns-in-Some : goal.returns-in-Some
returns-in-Some c = (refl, refl, less_some c.args.self.valued c.in-Some.given c.take_back.new.self c.in-Some.is c.take_back.ensures)
