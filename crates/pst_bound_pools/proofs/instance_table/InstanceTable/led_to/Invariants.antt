use Rattle.std.proofs.Common.{◌≡◌, drop}
use Rattle.pst_bound_pools.specs.Serving
use Rattle.pst_bound_pools.proofs.instance_table.InstanceTable.led_to.Given as goal

abbrev pub invariant-loop-name : goal.invariant-loop-name
invariant-loop-name l = Serving.led_to l.self l.reached (drop l.name-index l.names) ≡ Serving.led_to l.self l.number l.names
