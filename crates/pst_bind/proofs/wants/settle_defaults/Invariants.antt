use Rattle.pst_bind.specs.Choices.{AreTypeChoices}
use Rattle.pst_bind.proofs.wants.settle_defaults.Given as goal

abbrev pub invariant-loop-need : goal.invariant-loop-need
invariant-loop-need l = AreTypeChoices l.rows l.table l.known.known.items
