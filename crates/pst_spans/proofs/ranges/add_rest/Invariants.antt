use Rattle.std.proofs.Common.{◌≡◌, ◌++◌, drop, map}
use Rattle.pst_elab_rules.specs.Spans.{range_span}
use Rattle.pst_sources.specs.Shown.{sources_of}
use Rattle.pst_spans.specs.Rows.{as_range}
use Rattle.pst_spans.proofs.ranges.add_rest.Given as goal

abbrev pub invariant-loop-next : goal.invariant-loop-next
invariant-loop-next l =
    l.found.items ++ map (range_span (sources_of l.known)) (map as_range (drop l.next-index l.ranges))
    ≡ l.initial.found.items ++ map (range_span (sources_of l.known)) (map as_range l.ranges)
