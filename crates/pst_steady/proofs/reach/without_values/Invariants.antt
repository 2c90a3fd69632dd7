use Rattle.std.proofs.Common.{◌≡◌, ℕ, None, length}
use Rattle.pst_steady.specs.Reached.{value_at}
use Rattle.pst_steady.proofs.reach.without_values.Given as goal

abbrev pub invariant-loop-at : goal.invariant-loop-at
invariant-loop-at l = record { long : length l.values.items ≡ l._at; none : (i : ℕ) → value_at l.values.items i ≡ None }
