use Rattle.std.proofs.Common.{◌≡◌, ◌<◌, ℕ, slice_get, Some}
use Rattle.pst_scen.specs.declared.act.Filled.{Filled}
use Rattle.pst_graph.specs.Streamed.{IsJoined}
use Rattle.pst_graph.proofs.groups.find_apart_of.Given as goal

abbrev pub invariant-loop-i : goal.invariant-loop-i
invariant-loop-i l = (i : ℕ) (x : Filled) → i < l.i → slice_get l.references i ≡ Some x → IsJoined l.groups l.a x
