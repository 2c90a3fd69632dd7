use Rattle.std.proofs.Common.{◌≡◌, length, inl, inr}
use Rattle.pst_lexer.proofs.WordFinds.{IsRun, run_tells}
use Rattle.pst_lexer.proofs.words.word.Goals as goal

pub returns-else-len-text : goal.returns-else-len-text
returns-else-len-text c =
    run_tells c.args.text.now c.args.is_last c.word_end-len.result c.sort_of.result (record {
      begins = c.requires.begins;
      within = c.word_end-len.ensures.within;
      all = c.word_end-len.ensures.all;
      ends = c.word_end-len.ensures.ends;
      settled = λ same. elim c.else-len-text.either [ inl last ↦ last.1 | inr shorter ↦ absurd (shorter same) ];
    }) c.sort_of.ensures
