use Rattle.pst_values.specs.Kept.{AreHulls}
use Rattle.pst_values.proofs.search.hulls.Given as goal

abbrev pub invariant-loop-domain : goal.invariant-loop-domain
invariant-loop-domain l = AreHulls l.domains l.domain-index l.spans.items
