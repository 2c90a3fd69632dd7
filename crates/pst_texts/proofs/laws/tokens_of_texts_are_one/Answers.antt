use Rattle.pst_texts.proofs.Tables.{one_table, alone}
use Rattle.pst_texts.proofs.laws.tokens_of_texts_are_one.Goals as goal

pub returns-clause-texts : goal.returns-clause-texts
returns-clause-texts c = one_table

pub returns-clause-alone : goal.returns-clause-alone
returns-clause-alone c = alone
