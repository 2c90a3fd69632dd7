use Rattle.std.proofs.Common.{sym, ◌∙◌}
use Rattle.pst_lexer.proofs.MarkFinds.{IsMarked, two_begins, one_begins, mark_none}
use Rattle.pst_lexer.proofs.marks.mark.Goals as goal

pub returns-in-Some : goal.returns-in-Some
returns-in-Some c =
    two_begins c.args.text.now c.args.is_last c.in-Some.kind (record {
      some = c.requires.some;
      two = c.requires.two;
      no_word = c.requires.no_word;
      no_blank = c.requires.no_blank;
      no_comment = c.requires.no_comment;
    }) c.in-Some.ensures.0 c.in-Some.ensures.1

pub returns-in-Some-kind_of : goal.returns-in-Some-kind_of
returns-in-Some-kind_of c =
    one_begins c.args.text.now c.args.is_last c.in-Some-kind_of.kind (record {
      some = c.requires.some;
      two = c.requires.two;
      no_word = c.requires.no_word;
      no_blank = c.requires.no_blank;
      no_comment = c.requires.no_comment;
    }) c.in_default.ensures (sym c.kind_of.ensures.value ∙ c.in-Some-kind_of.is)

pub returns-in-None : goal.returns-in-None
returns-in-None c =
    mark_none c.args.text.now c.args.is_last (record {
      some = c.requires.some;
      two = c.requires.two;
      no_word = c.requires.no_word;
      no_blank = c.requires.no_blank;
      no_comment = c.requires.no_comment;
    }) c.in_default.ensures (sym c.kind_of.ensures.value ∙ c.in-None.is)
