use Rattle.std.proofs.Common.{◌≡◌, map, string_bytes, drop}
use Rattle.pst_words.specs.Lines.{given}
use Rattle.pst_words.proofs.argument.find_value.Given as goal

abbrev pub invariant-loop-i : goal.invariant-loop-i
invariant-loop-i l = given l.key (map string_bytes l.words) ≡ given l.key (drop l.i (map string_bytes l.words))
