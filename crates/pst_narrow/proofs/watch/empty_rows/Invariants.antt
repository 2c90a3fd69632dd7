use Rattle.std.proofs.Common.{◌≡◌, ℕ, length}
use Rattle.pst_narrow.specs.Watch.{Has}
use Rattle.pst_narrow.proofs.watch.empty_rows.Given as goal

abbrev pub invariant-loop-at : goal.invariant-loop-at
invariant-loop-at l = record {
  long : length l.rows.items ≡ l._at;
  none : (a b : ℕ) → Has l.rows.items a b → ⊥;
}
