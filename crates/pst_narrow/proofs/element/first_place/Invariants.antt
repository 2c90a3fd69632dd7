use Rattle.std.proofs.Common.{ℕ, ◌<◌, ◌≤◌}
use Rattle.pst_domain.specs.Bounds.{bound_of}
use Rattle.pst_narrow.specs.Elements.{Misses}
use Rattle.pst_narrow.proofs.element.first_place.Given as goal

abbrev pub invariant-loop-at : goal.invariant-loop-at
invariant-loop-at l = (i : ℕ) → l.from ≤ i → i < l.at → Misses (bound_of l.spans i) l.wanted
