use Rattle.std.proofs.Common.{◌≡◌, ◌<◌, ℕ, slice_get, Some}
use Rattle.pst_scen.specs.declared.act.Filled.{Filled}
use Rattle.pst_check.specs.Tests.{HasOtherWriter}
use Rattle.pst_check.proofs.starts.are_writers_other.Given as goal

abbrev pub invariant-loop-i : goal.invariant-loop-i
invariant-loop-i l = (i : ℕ) (x : Filled) → i < l.i → slice_get l.references i ≡ Some x → HasOtherWriter l.scenario l.past x → ⊥
