use Rattle.std.proofs.Common.{◌≡◌, ◌<◌, ◌^◌, drop}
use Rattle.pst_words.specs.Numerals.{value_behind}
use Rattle.pst_words.proofs.value.value_of.Given as goal

abbrev pub invariant-loop-i : goal.invariant-loop-i
invariant-loop-i l = (value_behind l.number (drop l.i l.text) ≡ value_behind 0 l.text) × (l.number < 2 ^ 64)
