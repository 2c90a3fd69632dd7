use Rattle.std.proofs.Common.{◌≡◌, drop}
use Rattle.pst_range_rules.specs.Types.{keeps_nothing, row_has}
use Rattle.pst_range_rules.proofs.empty.all_miss_values.Given as goal

abbrev pub invariant-loop-range : goal.invariant-loop-range
invariant-loop-range l = keeps_nothing (row_has l.values) (drop l.range-index l.ranges) ≡ keeps_nothing (row_has l.values) l.ranges
