use Rattle.std.proofs.Common.{◌≡◌, length}
use Rattle.pst_bind.specs.Choices.{AreChoices}
use Rattle.pst_bind.proofs.default_choices.choices_in.Given as goal

abbrev pub invariant-loop-at : goal.invariant-loop-at
invariant-loop-at l = record {
  long : length l.choices.items ≡ l.at;
  are : AreChoices l.rows l.table l.place l.choices.items;
}
