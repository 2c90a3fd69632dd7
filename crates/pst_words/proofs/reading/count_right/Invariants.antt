use Rattle.std.proofs.Common.{map, string_bytes, take}
use Rattle.pst_words.specs.Lines.{AreArguments}
use Rattle.pst_words.proofs.reading.count_right.Given as goal

abbrev pub invariant-loop-i : goal.invariant-loop-i
invariant-loop-i l = AreArguments l.command l.have (take l.i (map string_bytes l.words))
