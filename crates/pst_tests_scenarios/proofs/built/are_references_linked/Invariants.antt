use Rattle.std.proofs.Common.{◌≡◌, ◌<◌, ℕ, slice_get, Some}
use Rattle.pst_scen.specs.declared.act.Filled.{Filled}
use Rattle.pst_tests_scenarios.specs.Checked.{IsReferenceLinked}
use Rattle.pst_tests_scenarios.proofs.built.are_references_linked.Given as goal

abbrev pub invariant-loop-r : goal.invariant-loop-r
invariant-loop-r l = (k : ℕ) (y : Filled) → k < l.r → slice_get l.references k ≡ Some y → IsReferenceLinked l.scenario l.a y
