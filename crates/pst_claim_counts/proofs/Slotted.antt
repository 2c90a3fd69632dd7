-- Slots of actions, one after another.
use Rattle.std.proofs.Common.{◌≡◌, ℕ, List, [], ◌∷◌, ◌++◌, length, Option, Some, sym, subst, ⊎_elim}
use Rattle.std.specs.Prelude.{IfSome, slice_get}
use Rattle.std.proofs.lemmas.Option.{none-some}
use Rattle.pst_scen.specs.declared.tree.Node.{Node}
use Rattle.pst_nodes.specs.Over.{IsLeafOf}
use Rattle.pst_claim_rivals.proofs.Lists.{get_pushed}
use Rattle.pst_claim_counts.specs.Needs.{AreLeafSlots}

pub no_slots : (nodes : List Node) → AreLeafSlots nodes []
no_slots nodes a n e = absurd (none-some (Some n) e)

pub more_slots : (nodes : List Node) (slots : List (Option ℕ)) (leaf : Option ℕ) → IfSome leaf (IsLeafOf nodes (length slots)) → AreLeafSlots nodes slots → AreLeafSlots nodes (slots ++ leaf ∷ [])
more_slots nodes slots leaf is all a n e =
    ⊎_elim (λ h. all a n h)
    (λ last.
    let here : IsLeafOf nodes (length slots) n = subst (λ (o : Option ℕ). IfSome o (IsLeafOf nodes (length slots))) (sym last.1) is in
    subst (λ k. IsLeafOf nodes k n) (sym last.0) here)
    (get_pushed slots leaf a (Some n) e)
