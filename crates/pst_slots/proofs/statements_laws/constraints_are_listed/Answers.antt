use Rattle.pst_slots.proofs.StatementsWhole.{listed, holding}
use Rattle.pst_slots.proofs.statements_laws.constraints_are_listed.Goals as goal

pub returns-clause-listed : goal.returns-clause-listed
returns-clause-listed c = listed

pub returns-clause-holding : goal.returns-clause-holding
returns-clause-holding c = holding
