use Rattle.std.proofs.Common.{◌≡◌, ℕ, ◌<◌, Some}
use Rattle.std.specs.Prelude.{IsTrue, slice_get}
use Rattle.pst_ast.specs.Sorts.{is_action}
use Rattle.pst_steady.proofs.number.number_among.Given as goal

abbrev pub invariant-loop-at : goal.invariant-loop-at
invariant-loop-at l = (i : ℕ) → i < l.at → slice_get l.declarations i ≡ Some l.action → IsTrue (is_action l.action.sort) → ⊥
