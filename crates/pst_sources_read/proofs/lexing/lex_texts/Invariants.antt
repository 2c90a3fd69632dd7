use Rattle.pst_sources_read.specs.TextsLexed.{AreLexedSoFar}
use Rattle.pst_sources_read.proofs.lexing.lex_texts.Given as goal

-- the texts so far are lists of tokens
abbrev pub invariant-loop-number : goal.invariant-loop-number
invariant-loop-number l = AreLexedSoFar l.texts l.number l.names l.all.items l.room
