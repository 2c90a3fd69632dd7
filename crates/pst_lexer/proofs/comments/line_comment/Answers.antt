use Rattle.std.proofs.Common.{inl, inr, take}
use Rattle.pst_token.specs.Parts.{comment}
use Rattle.pst_lexer.proofs.LineFinds.{line_begins}
use Rattle.pst_lexer.proofs.comments.line_comment.Goals as goal

pub returns-else-len-text : goal.returns-else-len-text
returns-else-len-text c = (
  comment (take c.line_end-len.result c.args.text.now),
  tt,
  line_begins c.args.text.now c.args.is_last c.line_end-len.result (record {
    begins = c.requires.begins;
    within = c.line_end-len.ensures.within;
    all = c.line_end-len.ensures.all;
    ends = c.line_end-len.ensures.ends;
    settled = λ same. elim c.else-len-text.either [ inl last ↦ last.1 | inr shorter ↦ absurd (shorter same) ];
  }),
)
