use Rattle.pst_lexer.proofs.OwnTables.{one_table}
use Rattle.pst_lexer.proofs.laws.own_tokens_are_one.Goals as goal

pub returns : goal.returns
returns c = one_table
