use Rattle.std.proofs.Common.{[], sym}
use Rattle.pst_lexer.proofs.Pieces.{no_tokens}
use Rattle.pst_lexer.proofs.feeding.Lexer.new.Goals as goal

pub returns-clause-texts : goal.returns-clause-texts
returns-clause-texts c names = no_tokens names c.new.result.file c.new.result.taken.items c.new.result.tokens.items c.new.ensures.taken c.new.ensures.tokens
