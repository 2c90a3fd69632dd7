use Rattle.std.proofs.Common.{◌≡◌, ℕ, []}
use Rattle.pst_scen.specs.declared.act.Flow.{Flow}
use Rattle.pst_open_ends.specs.Beyond.{kept_at}
use Rattle.pst_open_ends.proofs.beyond.empty_pools.Given as goal

abbrev pub invariant-loop : goal.invariant-loop
invariant-loop l = (need : Flow) (p : ℕ) → kept_at need p l.pools.items ≡ []
