use Rattle.pst_lexer.proofs.Behind.{Follows}
use Rattle.pst_lexer.proofs.place.place_behind.Given as goal

abbrev pub invariant-loop-byte : goal.invariant-loop-byte
invariant-loop-byte l = Follows l.initial.place l.bytes l.byte-index l.place
