use Rattle.pst_members.specs.Rounds.{IsCut, before}
use Rattle.pst_members.specs.Found.{Keeps}
use Rattle.pst_members.proofs.tables.put_round.Given as goal

abbrev pub invariant-loop-at : goal.invariant-loop-at
invariant-loop-at l = Keeps l.initial.versions l.versions × IsCut l.declarations l.versions l.version l.at (before l.round l.at)
