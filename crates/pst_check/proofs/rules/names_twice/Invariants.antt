use Rattle.std.proofs.Common.{◌≡◌, ◌<◌, ℕ, slice_get, Some}
use Rattle.pst_scen.specs.declared.event.Event.{Event}
use Rattle.pst_by_rule.specs.Blocks.{lane_of}
use Rattle.pst_check.specs.Tests.{NamesBefore}
use Rattle.pst_check.proofs.rules.names_twice.Given as goal

abbrev pub invariant-loop-place : goal.invariant-loop-place
invariant-loop-place l = (i : ℕ) (x : Event) → i < l.place → slice_get l.part i ≡ Some x → NamesBefore l.part i (lane_of x) → ⊥
