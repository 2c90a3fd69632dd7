use Rattle.std.proofs.Common.{◌≡◌, ◌<◌, ℕ, slice_get, Some}
use Rattle.pst_scen.specs.declared.event.Event.{Event}
use Rattle.pst_scen.specs.Trace.{Started}
use Rattle.pst_by_rule.specs.Blocks.{act_of}
use Rattle.pst_check.proofs.rules.any_started.Given as goal

abbrev pub invariant-loop-i : goal.invariant-loop-i
invariant-loop-i l = (i : ℕ) (x : Event) → i < l.i → slice_get l.part i ≡ Some x → Started l.past (act_of x) → ⊥
