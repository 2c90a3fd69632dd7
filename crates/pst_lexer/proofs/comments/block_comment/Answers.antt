use Rattle.std.proofs.Common.{take}
use Rattle.pst_token.specs.Parts.{comment}
use Rattle.pst_lexer.proofs.BlockFinds.{block_begins, block_none}
use Rattle.pst_lexer.proofs.comments.block_comment.Goals as goal

pub returns-in-Some : goal.returns-in-Some
returns-in-Some c =
    let (n, reach, within, found) = c.in-Some.ensures in
    (comment (take c.in-Some.len c.args.text.now), tt, block_begins c.args.text.now c.args.is_last c.in-Some.len n c.requires.begins reach within found)

pub returns-in-None : goal.returns-in-None
returns-in-None c = block_none c.args.text.now c.args.is_last c.requires.begins c.if-is_last.true c.in-None.ensures
