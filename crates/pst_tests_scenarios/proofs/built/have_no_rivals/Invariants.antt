use Rattle.std.proofs.Common.{◌≡◌, ◌<◌, ℕ, slice_get, Some}
use Rattle.pst_scen.specs.declared.act.Filled.{Filled}
use Rattle.pst_tests_scenarios.specs.Checked.{HasNoRival}
use Rattle.pst_tests_scenarios.proofs.built.have_no_rivals.Given as goal

abbrev pub invariant-loop-r : goal.invariant-loop-r
invariant-loop-r l = (k : ℕ) (y : Filled) → k < l.r → slice_get l.references k ≡ Some y → HasNoRival l.scenario l.a k y
