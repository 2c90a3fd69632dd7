use Rattle.std.proofs.Common.{◌≡◌}
use Rattle.pst_members.specs.Found.{found}
use Rattle.pst_members.proofs.versions.Versions.get.Given as goal

abbrev pub invariant-loop-key : goal.invariant-loop-key
invariant-loop-key l = found l.self l.at l.rest ≡ found l.self l.version l.key

abbrev pub decreases-loop-key : goal.decreases-loop-key
decreases-loop-key l = l.at
