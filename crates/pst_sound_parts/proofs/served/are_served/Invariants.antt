use Rattle.std.proofs.Common.{ℕ, ◌<◌, IsSome}
use Rattle.pst_model.specs.Served.{pool_in}
use Rattle.pst_sound_parts.proofs.served.are_served.Given as goal

abbrev pub invariant-loop-reference : goal.invariant-loop-reference
invariant-loop-reference l = (reference : ℕ) → reference < l.reference → IsSome (pool_in l.served l.action l.instance reference)
