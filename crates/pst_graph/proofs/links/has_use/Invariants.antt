use Rattle.std.proofs.Common.{◌≡◌, ◌<◌, ◌⊎◌, ℕ, slice_get, Some}
use Rattle.pst_scen.specs.declared.act.Filled.{Filled}
use Rattle.pst_scen.specs.declared.act.Flow.TheVariants.{StateIn, StateOut}
use Rattle.pst_graph.proofs.links.has_use.Given as goal

abbrev pub invariant-loop-i : goal.invariant-loop-i
invariant-loop-i l = (i : ℕ) (x : Filled) → i < l.i → slice_get l.references i ≡ Some x → x.pool ≡ l.pool → (x.flow ≡ StateIn) ⊎ (x.flow ≡ StateOut) → ⊥
