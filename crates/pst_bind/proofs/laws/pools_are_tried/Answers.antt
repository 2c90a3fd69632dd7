use Rattle.pst_bind.proofs.PoolsTried.{are, pools, serves, twice, one_pool, no_pool, two_pools}
use Rattle.pst_bind.proofs.laws.pools_are_tried.Goals as goal

pub returns : goal.returns
returns c = record {
  are = are;
  pools = pools;
  serves = serves;
  twice = twice;
  one_pool = one_pool;
  no_pool = no_pool;
  two_pools = two_pools;
}
