use Rattle.std.proofs.Common.{◌≡◌, length}
use Rattle.pst_loops.specs.Numbers.{AreNumbersTo}
use Rattle.pst_loops.proofs.numbers.numbers_of.Given as goal

abbrev pub invariant-loop-at : goal.invariant-loop-at
invariant-loop-at l = record {
  long : length l.numbers.items ≡ l.at;
  numbers : AreNumbersTo l.at l.declarations l.numbers.items;
}
