use Rattle.std.proofs.Common.{◌≡◌, ◌-◌, ◌++◌, ◌&&◌, length}
use Rattle.std.specs.List.{filter, list_any, range_with_len}
use Rattle.pst_model.specs.ModelView.{view_model}
use Rattle.pst_legal.specs.Types.{is_state_pool}
use Rattle.pst_legal.specs.Blanks.{refers_to, used_state_pools}
use Rattle.pst_blanks.proofs.pools.used_pools.Given as goal

abbrev pub invariant-loop-pool : goal.invariant-loop-pool
invariant-loop-pool l =
    l.pools.items ++ filter (λ pool. is_state_pool (view_model l.model) pool && list_any (refers_to pool) l.acts) (range_with_len l.pool (length l.model.pools.items - l.pool)) ≡ used_state_pools (view_model l.model) l.acts
