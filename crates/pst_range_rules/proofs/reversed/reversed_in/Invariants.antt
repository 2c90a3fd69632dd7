use Rattle.std.proofs.Common.{◌≡◌, drop}
use Rattle.pst_name_rules.specs.Leasts.{least_at}
use Rattle.pst_range_rules.specs.Spans.{reversed_finding, reversed_in}
use Rattle.pst_range_rules.proofs.reversed.reversed_in.Given as goal

abbrev pub invariant-loop-range : goal.invariant-loop-range
invariant-loop-range l = least_at reversed_finding (drop l.range-index l.ranges) l.found ≡ reversed_in l.ranges
