-- Which instances stand under others.
use Rattle.std.proofs.Common.{◌≡◌, ◌⊎◌, inl, inr, ℕ, List, slice_get, Some, None, refl, ap}
use Rattle.pst_model.specs.declared.model.Part.{Part}
use Rattle.pst_model.specs.Preorder.{LiesUnder, AtTop, Below}

pub up : (parts : List Part) (top n : ℕ) → LiesUnder parts top n → (top ≡ n) ⊎ ((parent : ℕ) × (part : Part) × (slice_get parts n ≡ Some part) × (part.parent ≡ Some parent) × LiesUnder parts top parent)
up parts top _ AtTop = inl refl
up parts top _ (Below n parent part is in_parent under) = inr (parent, part, is, in_parent, under)

pub same_some : {X : Type 0} (x y : X) → Some x ≡ Some y → x ≡ y
same_some x y e = ap (λ o. elim o [ Some z ↦ z | None ↦ x ]) e
