use Rattle.std.proofs.Common.{◌≡◌, ◌<◌, ℕ, slice_get, Some}
use Rattle.pst_scen.specs.declared.act.Act.{Act}
use Rattle.pst_scen.specs.declared.act.Filled.{Filled}
use Rattle.pst_tests_scenarios.specs.Checked.{AreRivals}
use Rattle.pst_tests_scenarios.proofs.built.has_no_rival.Given as goal

abbrev pub invariant-loop-b : goal.invariant-loop-b
invariant-loop-b l = (k : ℕ) (y : Act) → k < l.b → slice_get l.scenario.actions k ≡ Some y → (q : ℕ) (other : Filled) → slice_get y.references q ≡ Some other → AreRivals l.one other → (l.a ≡ k) × (l.r ≡ q)
