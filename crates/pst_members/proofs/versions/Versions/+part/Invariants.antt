use Rattle.std.proofs.Common.{◌+◌}
use Rattle.pst_members.proofs.versions.Versions.+part.Given as goal

abbrev pub decreases-part : goal.decreases-part
decreases-part l = l.key + l.other
