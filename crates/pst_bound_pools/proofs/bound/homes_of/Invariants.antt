use Rattle.std.proofs.Common.{◌≡◌, ◌++◌, drop, map}
use Rattle.pst_bound_pools.specs.Homes.{home_place}
use Rattle.pst_bound_pools.proofs.bound.homes_of.Given as goal

abbrev pub invariant-loop-instance : goal.invariant-loop-instance
invariant-loop-instance l = l.homes.items ++ map (home_place l.index) (drop l.instance-index l.instances) ≡ map (home_place l.index) l.instances
