-- Loops that look for an item.
use Rattle.std.proofs.Common.{◌≡◌, ◌<◌, ◌≤◌, ◌+◌, ◌⊎◌, inl, inr, ℕ, List, slice_get, Some, sym, ap, subst, ◌∙◌, arith}
use Rattle.std.proofs.lemmas.Bool.{cases_lt}
use Rattle.pst_nodes.proofs.Climbs.{same_some}

-- what no item before one is, and that one isn't, no item before the next is
pub none_more : {X : Type 0} (P : X → Type 0) (xs : List X) (i : ℕ) (x : X) → slice_get xs i ≡ Some x → (P x → ⊥) → ((k : ℕ) (y : X) → k < i → slice_get xs k ≡ Some y → P y → ⊥) → (k : ℕ) (y : X) → k < i + 1 → slice_get xs k ≡ Some y → P y → ⊥
none_more {X = X} P xs i x at_i not before k y below at_k has = go (cases_lt k i)
  where
    go : (k < i) ⊎ (i ≤ k) → ⊥
    go (inl less) = before k y less at_k has
    go (inr more) =
        let same : i ≡ k = omega (arith, more, below) in
        not (subst P (same_some y x (sym at_k ∙ ap (slice_get xs) (sym same) ∙ at_i)) has)
