use Rattle.std.proofs.Common.{◌≡◌, ◌<◌, ℕ}
use Rattle.std.specs.Prelude.{Some}
use Rattle.pst_bound_pools.specs.Serving.{parent_of}
use Rattle.pst_bind.proofs.default_choices.are_behind.Given as goal

abbrev pub invariant-loop-at : goal.invariant-loop-at
invariant-loop-at l = (n parent : ℕ) → n < l.at → parent_of l.instances n ≡ Some parent → parent < n
