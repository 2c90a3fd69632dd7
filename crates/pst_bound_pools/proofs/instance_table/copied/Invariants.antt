use Rattle.std.proofs.Common.{◌≡◌, take}
use Rattle.pst_bound_pools.proofs.instance_table.copied.Given as goal

abbrev pub invariant-loop-instance : goal.invariant-loop-instance
invariant-loop-instance l = l.found.items ≡ take l.instance-index l.instances
