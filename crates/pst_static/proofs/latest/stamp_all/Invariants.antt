use Rattle.std.proofs.Common.{◌≡◌}
use Rattle.pst_book.specs.Parts.{AreChanged}
use Rattle.pst_static.proofs.latest.stamp_all.Given as goal

abbrev pub invariant-loop-other : goal.invariant-loop-other
invariant-loop-other l = AreChanged (λ m x y. y ≡ l.value) l.fn.places l.places l.first l.other
