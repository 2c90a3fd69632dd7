use Rattle.std.proofs.Common.{◌≡◌, ◌≤◌, ℕ, drop}
use Rattle.pst_scen.specs.declared.act.Flow.{Flow}
use Rattle.pst_pool_sources.specs.Offers.{ends_at, room_at, begun_at, but_last, count_in}
use Rattle.pst_pool_sources.proofs.sources.PoolSources.take_references.Given as goal

abbrev pub invariant-loop-filled : goal.invariant-loop-filled
invariant-loop-filled l =
    ((need : Flow) (p : ℕ) → but_last (count_in need p (drop l.filled-index l.references)) (ends_at need p l.self) ≡ but_last (count_in need p l.references) (ends_at need p l.initial.self))
    × ((need : Flow) (p : ℕ) → room_at need p l.initial.self ≤ room_at need p l.self) × ((p : ℕ) → begun_at p l.self ≡ begun_at p l.initial.self)
