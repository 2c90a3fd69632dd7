use Rattle.std.proofs.Common.{◌≡◌, ◌<◌, ◌≤◌, ℕ, slice_get, Some, None}
use Rattle.pst_scen.specs.declared.act.Act.{Act}
use Rattle.pst_tests_scenarios.proofs.built.are_inferred.Given as goal

abbrev pub invariant-loop-a : goal.invariant-loop-a
invariant-loop-a l = (k : ℕ) (y : Act) → l.first ≤ k → k < l.a → slice_get l.acts k ≡ Some y → y.node ≡ None
