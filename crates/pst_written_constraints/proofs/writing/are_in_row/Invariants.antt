use Rattle.std.proofs.Common.{◌≡◌, ℕ, ◌+◌, ◌<◌, Some}
use Rattle.std.specs.Prelude.{slice_get}
use Rattle.pst_written_constraints.specs.declared.term.Term.TheVariants as term
use Rattle.pst_written_constraints.proofs.writing.are_in_row.Given as goal

abbrev pub invariant-loop-k : goal.invariant-loop-k
invariant-loop-k l = (k : ℕ) → k < l.k → slice_get l.terms (l.first + k) ≡ Some (term.Variable (l.start + k))
