use Rattle.pst_lexer.proofs.BlockEnds.{NoneCloses}
use Rattle.pst_lexer.proofs.comments.block_end.Given as goal

abbrev pub invariant-loop-at : goal.invariant-loop-at
invariant-loop-at l = NoneCloses l.text l.at
