use Rattle.std.proofs.Common.{◌≡◌, ◌≤◌, true, not, length, take}
use Rattle.std.specs.List.{list_all}
use Rattle.pst_token.specs.Lexemes.{is_word_byte}
use Rattle.pst_lexer.proofs.words.word_end.Given as goal

abbrev pub invariant-loop-at : goal.invariant-loop-at
invariant-loop-at l = record { within : l.at ≤ length l.text; all : list_all is_word_byte (take l.at l.text) ≡ true }
