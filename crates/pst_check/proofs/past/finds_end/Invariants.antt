use Rattle.std.proofs.Common.{◌≡◌, ◌<◌, ℕ, slice_get, Some}
use Rattle.pst_scen.specs.declared.event.Event.{Event}
use Rattle.pst_check.specs.Tests.{EndsAct}
use Rattle.pst_check.proofs.past.finds_end.Given as goal

abbrev pub invariant-loop-i : goal.invariant-loop-i
invariant-loop-i l = (i : ℕ) (x : Event) → i < l.i → slice_get l.past i ≡ Some x → EndsAct l.a x → ⊥
