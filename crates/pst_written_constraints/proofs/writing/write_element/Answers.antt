use Rattle.std.proofs.Common.{subst}
use Rattle.pst_written_constraints.specs.Terms.{Mirrors}
use Rattle.pst_written_constraints.proofs.writing.write_element.Goals as goal

pub returns-in_ok-written-in-Some : goal.returns-in_ok-written-in-Some
returns-in_ok-written-in-Some c = λ terms first e row mirrors. c.in_ok-written-in-Some.ensures terms first e row (subst (Mirrors terms e) c.in-Some.is mirrors)
