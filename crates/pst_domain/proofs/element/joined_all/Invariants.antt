use Rattle.std.proofs.Common.{◌≡◌, map, take}
use Rattle.pst_domain.specs.Cut.{cut_span}
use Rattle.pst_domain.specs.Element.{joined_all}
use Rattle.pst_domain.proofs.element.joined_all.Given as goal

abbrev pub invariant-loop-bound : goal.invariant-loop-bound
invariant-loop-bound l = l.all ≡ joined_all (map cut_span (take l.bound-index l.bounds))
