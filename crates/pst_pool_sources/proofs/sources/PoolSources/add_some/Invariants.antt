use Rattle.std.proofs.Common.{◌≡◌, ◌≤◌, ℕ, ◌++◌, take}
use Rattle.pst_scen.specs.declared.act.Flow.{Flow}
use Rattle.pst_pool_sources.specs.Offers.{ends_at, room_at, begun_at, fitting_in}
use Rattle.pst_pool_sources.proofs.sources.PoolSources.add_some.Given as goal

abbrev pub invariant-loop-filled : goal.invariant-loop-filled
invariant-loop-filled l =
    (l.count ≡ l.filled-index) × ((need : Flow) (p : ℕ) → ends_at need p l.self ≡ ends_at need p l.initial.self ++ fitting_in need p l.act 0 (take l.filled-index l.references))
    × ((need : Flow) (p : ℕ) → room_at need p l.initial.self ≤ room_at need p l.self) × ((p : ℕ) → begun_at p l.self ≡ begun_at p l.initial.self)
