use Rattle.std.proofs.Common.{◌≡◌, ◌+◌, length, drop}
use Rattle.std.specs.List.{take_while}
use Rattle.pst_token.specs.Lexemes.{is_word_byte}
use Rattle.pst_words.proofs.value.word_length.Given as goal

abbrev pub invariant-loop-i : goal.invariant-loop-i
invariant-loop-i l = length (take_while is_word_byte l.text) ≡ l.i + length (take_while is_word_byte (drop l.i l.text))
