use Rattle.std.proofs.Common.{slice_index, rules}
use Rattle.pst_token.specs.Parts.{blank}
use Rattle.pst_lexer.proofs.Opens.{open_word, open_line, open_block, blank_begins}
use Rattle.pst_lexer.proofs.find.find.Goals as goal

pub word-requires-clause-seen : goal.word-requires-clause-seen
word-requires-clause-seen c = open_word c.args.text.now c.args.seen (search rules) c.requires.seen

pub line_comment-requires-clause-seen : goal.line_comment-requires-clause-seen
line_comment-requires-clause-seen c = open_line c.args.text.now c.args.seen (search rules) c.requires.seen

pub block_comment-requires-clause-seen : goal.block_comment-requires-clause-seen
block_comment-requires-clause-seen c = open_block c.args.text.now c.args.seen (search rules) c.requires.seen

pub returns-then-is_blank : goal.returns-then-is_blank
returns-then-is_blank c =
    (blank (slice_index c.args.text.now 0), tt, blank_begins c.args.text.now c.args.is_last c.requires.some (search rules))
