use Rattle.std.proofs.Common.{◌≡◌, ◌<◌, ℕ, slice_get, Some}
use Rattle.pst_scen.specs.declared.act.Filled.{Filled}
use Rattle.pst_check.specs.Tests.{IsReaderOf}
use Rattle.pst_check.proofs.starts.are_readers_of.Given as goal

abbrev pub invariant-loop-i : goal.invariant-loop-i
invariant-loop-i l = (i : ℕ) (x : Filled) → i < l.i → slice_get l.references i ≡ Some x → IsReaderOf l.writer x → ⊥
