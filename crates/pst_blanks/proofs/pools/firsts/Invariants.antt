use Rattle.std.proofs.Common.{◌≡◌, ◌++◌, map, drop}
use Rattle.pst_legal.specs.ValueReading.{empty_first}
use Rattle.pst_blanks.proofs.pools.firsts.Given as goal

abbrev pub invariant-loop-pool : goal.invariant-loop-pool
invariant-loop-pool l = l.firsts.items ++ map empty_first (drop l.pool-index l.pools) ≡ map empty_first l.pools
