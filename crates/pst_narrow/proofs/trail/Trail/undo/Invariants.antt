use Rattle.std.proofs.Common.{length}
use Rattle.pst_narrow.proofs.TrailLemmas.{IsPartlyBack}
use Rattle.pst_narrow.proofs.trail.Trail.undo.Given as goal

abbrev pub invariant-loop-self : goal.invariant-loop-self
invariant-loop-self l = IsPartlyBack l.mark l.initial.self-inside.formers.items l.self-inside.formers.items l.initial.bounds l.bounds

abbrev pub decreases-loop-self : goal.decreases-loop-self
decreases-loop-self l = length l.self-inside.formers.items
