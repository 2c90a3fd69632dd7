use Rattle.std.proofs.Common.{◌≡◌, ◌<◌, ℕ, slice_get, Some}
use Rattle.pst_scen.specs.declared.act.Act.{Act}
use Rattle.pst_tests_scenarios.specs.Checked.{HaveNoRivals}
use Rattle.pst_tests_scenarios.proofs.built.has_no_rivals.Given as goal

abbrev pub invariant-loop-a : goal.invariant-loop-a
invariant-loop-a l = (k : ℕ) (y : Act) → k < l.a → slice_get l.scenario.actions k ≡ Some y → HaveNoRivals l.scenario k y.references
