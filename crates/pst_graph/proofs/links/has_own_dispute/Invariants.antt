use Rattle.std.proofs.Common.{◌≡◌, ◌<◌, ℕ, slice_get, Some}
use Rattle.pst_scen.specs.declared.act.Claimed.{Claimed}
use Rattle.pst_graph.specs.Links.{DisputesElsewhere}
use Rattle.pst_graph.proofs.links.has_own_dispute.Given as goal

abbrev pub invariant-loop-i : goal.invariant-loop-i
invariant-loop-i l = (i : ℕ) (x : Claimed) → i < l.i → slice_get l.claims i ≡ Some x → DisputesElsewhere l.claims i x → ⊥
