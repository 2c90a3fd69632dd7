use Rattle.std.proofs.Common.{◌≡◌, length}
use Rattle.pst_reasons.specs.Marks.{marked_in}
use Rattle.pst_reasons.proofs.marks.add_flags.Given as goal

abbrev pub invariant-loop-at : goal.invariant-loop-at
invariant-loop-at l = record {
  long : length l.flags.items ≡ l._at;
  marked : marked_in l.flags.items ≡ marked_in l.initial.flags.items;
}
