use Rattle.std.proofs.Common.{◌≡◌, ℕ, [], false}
use Rattle.std.specs.Prelude.{slice_get}
use Rattle.pst_scen.specs.declared.act.Flow.{Flow}
use Rattle.pst_pool_sources.specs.Offers.{ends_in, begun_in}
use Rattle.pst_pool_sources.proofs.sources.empty_pools.Given as goal

abbrev pub invariant-loop : goal.invariant-loop
invariant-loop l = ((need : Flow) (p : ℕ) → ends_in need (slice_get l.pools.items p) ≡ []) × ((p : ℕ) → begun_in (slice_get l.pools.items p) ≡ false)
