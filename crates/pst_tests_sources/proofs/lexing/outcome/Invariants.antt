use Rattle.std.proofs.Common.{◌≡◌, ◌+◌, ◌-◌, ◌≤◌, length, take}
use Rattle.pst_lexer.specs.Lexing.{HasItsTexts}
use Rattle.pst_tests_sources.proofs.lexing.outcome.Given as goal

abbrev pub invariant-pieces : goal.invariant-pieces
invariant-pieces l = record {
  within : l.at ≤ length l.text;
  file : l.lexer.file ≡ 0;
  room : l.lexer.room ≡ l.room;
  taken : l.lexer.taken ≡ take l.at l.text;
  texts : HasItsTexts l.names l.lexer;
  few : length l.lexer.tokens ≤ l.room;
  names : length l.names ≤ length l.initial.names + length l.lexer.tokens + l.at;
}

abbrev pub decreases-pieces : goal.decreases-pieces
decreases-pieces l = length l.text - l.at
