use Rattle.std.proofs.Common.{◌≡◌, ◌<◌, ℕ, slice_get, Some}
use Rattle.pst_scen.specs.declared.act.Filled.{Filled}
use Rattle.pst_tests_scenarios.specs.Checked.{AreRivals}
use Rattle.pst_tests_scenarios.proofs.built.has_no_rival_in.Given as goal

abbrev pub invariant-loop-q : goal.invariant-loop-q
invariant-loop-q l = (k : ℕ) (y : Filled) → k < l.q → slice_get l.references k ≡ Some y → AreRivals l.one y → l.own ≡ Some k
