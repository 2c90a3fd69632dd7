use Rattle.std.proofs.Common.{◌+◌, length}
use Rattle.pst_members.specs.Kept.{AreTables}
use Rattle.pst_members.specs.Rounds.{IsCut, before}
use Rattle.pst_members.proofs.tables.Tables.keep_round.Given as goal

abbrev pub invariant-loop-at : goal.invariant-loop-at
invariant-loop-at l = AreTables l.declarations l.self × IsCut l.declarations l.self.versions l.version (length l.round + l.at) (before l.round l.at)
