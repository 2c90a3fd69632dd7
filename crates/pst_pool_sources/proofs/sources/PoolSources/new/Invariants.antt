use Rattle.std.proofs.Common.{◌≡◌, ℕ, ◌++◌, drop, false}
use Rattle.pst_scen.specs.declared.act.Flow.{Flow}
use Rattle.pst_pool_sources.specs.Offers.{ends_at, begun_at, fitting, fitting_from}
use Rattle.pst_pool_sources.proofs.sources.PoolSources.new.Given as goal

abbrev pub invariant-loop-act : goal.invariant-loop-act
invariant-loop-act l = (l.number ≡ l.act-index) × ((need : Flow) (p : ℕ) → ends_at need p l.sources ++ fitting_from need p l.act-index (drop l.act-index l.acts) ≡ fitting need p l.acts) × ((p : ℕ) → begun_at p l.sources ≡ false)
