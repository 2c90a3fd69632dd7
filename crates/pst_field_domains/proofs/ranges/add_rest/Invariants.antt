use Rattle.std.proofs.Common.{◌≡◌, ◌++◌, drop, map}
use Rattle.pst_range_rules.specs.Facts.{constant_at}
use Rattle.pst_range_rules.specs.Spans.{as_range}
use Rattle.pst_field_domains.specs.Known.{known_spans}
use Rattle.pst_field_domains.proofs.ranges.add_rest.Given as goal

abbrev pub invariant-loop-next : goal.invariant-loop-next
invariant-loop-next l =
    l.found.items ++ known_spans (constant_at l.facts l.at) (map as_range (drop l.next-index l.ranges))
    ≡ l.initial.found.items ++ known_spans (constant_at l.facts l.at) (map as_range l.ranges)
