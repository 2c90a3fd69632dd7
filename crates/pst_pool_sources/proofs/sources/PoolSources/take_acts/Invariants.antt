use Rattle.std.proofs.Common.{◌≡◌, ◌≤◌, ℕ, drop}
use Rattle.pst_scen.specs.declared.act.Flow.{Flow}
use Rattle.pst_pool_sources.specs.Offers.{ends_at, room_at, begun_at, but_last, count_from}
use Rattle.pst_pool_sources.proofs.sources.PoolSources.take_acts.Given as goal

abbrev pub invariant-loop-act : goal.invariant-loop-act
invariant-loop-act l =
    ((need : Flow) (p : ℕ) → but_last (count_from need p (drop l.act-index l.acts)) (ends_at need p l.self) ≡ but_last (count_from need p l.acts) (ends_at need p l.initial.self))
    × ((need : Flow) (p : ℕ) → room_at need p l.initial.self ≤ room_at need p l.self) × ((p : ℕ) → begun_at p l.self ≡ begun_at p l.initial.self)
