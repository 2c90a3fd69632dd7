use Rattle.pst_lexer.proofs.Text.{word_text}
use Rattle.pst_lexer.proofs.words.ascii.Goals as goal

pub unreachable-requires : goal.unreachable-requires
unreachable-requires c = c.in-Err.ensures.cases.0 (word_text c.args.word.now c.requires)
