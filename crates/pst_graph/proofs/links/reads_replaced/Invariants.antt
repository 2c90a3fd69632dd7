use Rattle.std.proofs.Common.{◌≡◌, ◌<◌, ℕ, slice_get, Some}
use Rattle.pst_scen.specs.declared.act.Filled.{Filled}
use Rattle.pst_graph.specs.Links.{IsReplaced}
use Rattle.pst_graph.proofs.links.reads_replaced.Given as goal

abbrev pub invariant-loop-i : goal.invariant-loop-i
invariant-loop-i l = (i : ℕ) (x : Filled) → i < l.i → slice_get l.own i ≡ Some x → IsReplaced l.others x → ⊥
