use Rattle.std.proofs.Common.{ℕ, ◌<◌, ◌≤◌}
use Rattle.pst_domain.specs.Bounds.{bound_of}
use Rattle.pst_narrow.specs.Elements.{Misses}
use Rattle.pst_narrow.proofs.element.end_of_places.Given as goal

abbrev pub invariant-loop-end : goal.invariant-loop-end
invariant-loop-end l = record {
  least : l.from ≤ l.end;
  most : l.end ≤ l.to;
  missed : (i : ℕ) → l.end ≤ i → i < l.to → Misses (bound_of l.spans i) l.wanted;
}

abbrev pub decreases-loop-end : goal.decreases-loop-end
decreases-loop-end l = l.end
