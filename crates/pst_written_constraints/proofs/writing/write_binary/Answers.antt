use Rattle.std.proofs.Common.{subst}
use Rattle.pst_written_constraints.specs.Terms.{Mirrors}
use Rattle.pst_written_constraints.proofs.writing.write_binary.Goals as goal

pub returns-in_ok-written-in-Some : goal.returns-in_ok-written-in-Some
returns-in_ok-written-in-Some c = λ terms a b first second. c.in_ok-written-in-Some.ensures terms a b first (subst (Mirrors terms b) c.in-Some.is second)
