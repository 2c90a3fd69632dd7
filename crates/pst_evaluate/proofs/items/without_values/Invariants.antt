use Rattle.std.proofs.Common.{◌≡◌, ℕ, None}
use Rattle.std.specs.Prelude.{slice_index_or}
use Rattle.pst_evaluate.proofs.items.without_values.Given as goal

abbrev pub invariant-loop-item : goal.invariant-loop-item
invariant-loop-item l = (n : ℕ) → slice_index_or l.values.items n None ≡ None
