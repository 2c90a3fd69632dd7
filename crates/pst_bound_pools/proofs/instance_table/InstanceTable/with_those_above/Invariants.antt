use Rattle.std.proofs.Common.{◌≡◌, ◌++◌, []}
use Rattle.std.specs.Option.{option_map_or}
use Rattle.pst_bound_pools.specs.Serving
use Rattle.pst_bound_pools.proofs.instance_table.InstanceTable.with_those_above.Given as goal

abbrev pub invariant-loop-at : goal.invariant-loop-at
invariant-loop-at l = l.above.items ++ option_map_or (Serving.above_within l.left l.self) l.at [] ≡ Serving.with_those_above l.self l.number

abbrev pub decreases-loop-at : goal.decreases-loop-at
decreases-loop-at l = l.left
