-- Elements with a property, by their places and by their numbers.
use Rattle.std.proofs.Common.{◌≡◌, ◌≤◌, ◌<◌, ◌+◌, ◌⊎◌, ℕ, zero, suc, List, [], ◌∷◌, length, map, get_or, slice_get, Some, Bool, true, false, not, IsTrue, ◌↔◌, refl, sym, ap, ◌∙◌, subst, inl, inr, ⊎_elim, arith}
use Rattle.std.specs.Prelude.{Contains}
use Rattle.std.proofs.lemmas.Bool.{cases_lt}
use Rattle.std.proofs.lemmas.Option.{same_Some, slice_get-get_or}
use Rattle.pst_scen.specs.declared.event.Event.{Event}
use Rattle.pst_by_rule.specs.Blocks.{act_of}
use Rattle.pst_check.specs.Tests.{AtSome}
use Rattle.pst_check.proofs.Elements.{none_in, cons_cases, cons_first, cons_rest}

pub no_true : IsTrue false → ⊥
no_true e = cc

pub not_test : (b : Bool) {A B : Type 0} → (IsTrue b ↔ A) → ((A → ⊥) → B) → (B → A → ⊥) → IsTrue (not b) ↔ B
not_test true h f g = (λ t. absurd (no_true t), λ y. absurd (g y (h.0 refl)))
not_test false h f g = (λ t. f (λ a. no_true (h.1 a)), λ y. refl)

pub and_then : {A B C : Type 0} → (A ↔ B) → (B ↔ C) → A ↔ C
and_then f g = (λ a. g.0 (f.0 a), λ k. f.1 (g.1 k))

-- what no item before one is, and that one isn't, no item before the next is
pub none_more : {X : Type 0} (P : X → Type 0) (xs : List X) (i : ℕ) (x : X) → slice_get xs i ≡ Some x → (P x → ⊥) → ((k : ℕ) (y : X) → k < i → slice_get xs k ≡ Some y → P y → ⊥) → (k : ℕ) (y : X) → k < i + 1 → slice_get xs k ≡ Some y → P y → ⊥
none_more {X = X} P xs i x at_i not before k y below at_k has = go (cases_lt k i)
  where
    go : (k < i) ⊎ (i ≤ k) → ⊥
    go (inl less) = before k y less at_k has
    go (inr more) =
        let same : i ≡ k = omega (arith, more, below) in
        not (subst P (same_Some y x (sym at_k ∙ ap (slice_get xs) (sym same) ∙ at_i)) has)

-- the same of the actions of events
pub none_more_of : (d : Event) (P : ℕ → Type 0) (xs : List Event) (i a : ℕ) → i < length xs → a ≡ act_of (get_or xs i d) → (P a → ⊥) → ((k : ℕ) (y : Event) → k < i → slice_get xs k ≡ Some y → P (act_of y) → ⊥) → (k : ℕ) (y : Event) → k < i + 1 → slice_get xs k ≡ Some y → P (act_of y) → ⊥
none_more_of d P xs i a within is not before =
    none_more (λ e. P (act_of e)) xs i (get_or xs i d) (slice_get-get_or xs i d within) (λ h. not (subst P (sym is) h)) before

-- AN ELEMENT OF A MAPPED LIST

module _ {X : Type 0} (f : X → ℕ) (P : ℕ → Type 0) where
  pub mapped : (xs : List X) → AtSome xs (λ x. P (f x)) → (a : ℕ) × Contains (map f xs) a × P a
  mapped xs h = (f h.element, contained xs h.place h.element h.is, h.has)
    where
      contained : (xs : List X) (k : ℕ) (x : X) → slice_get xs k ≡ Some x → Contains (map f xs) (f x)
      contained [] k x e = cc
      contained (y ∷ ys) zero x e = subst (λ z. Contains (map f (y ∷ ys)) (f z)) (same_Some y x e) (cons_first (f y) (map f ys))
      contained (y ∷ ys) (suc k) x e = cons_rest (f y) (f x) (map f ys) (contained ys k x e)

  pub unmapped : (xs : List X) (a : ℕ) → Contains (map f xs) a → P a → AtSome xs (λ x. P (f x))
  unmapped [] a c h = absurd (none_in a c)
  unmapped (y ∷ ys) a c h =
      ⊎_elim
      (λ e. record { place = 0; element = y; is = refl; has = subst P (sym e) h })
      (λ k. let r = unmapped ys a k h in record { place = suc r.place; element = r.element; is = r.is; has = r.has })
      (cons_cases (f y) a (map f ys) c)

pub mapped_at : {X : Type 0} (f : X → ℕ) (xs : List X) (k : ℕ) (x : X) → slice_get xs k ≡ Some x → (k < length (map f xs)) × (get_or (map f xs) k 0 ≡ f x)
mapped_at f [] k x e = cc
mapped_at f (y ∷ ys) zero x e = (omega arith, ap f (same_Some y x e))
mapped_at f (y ∷ ys) (suc k) x e = let r = mapped_at f ys k x e in let l : k < length (map f ys) = r.0 in (omega (arith, l), r.1)

pub at_mapped : {X : Type 0} (f : X → ℕ) (xs : List X) (k : ℕ) → k < length (map f xs) → (x : X) × (slice_get xs k ≡ Some x)
at_mapped f [] k l = absurd (omega (arith, l))
at_mapped f (y ∷ ys) zero l = (y, refl)
at_mapped f (y ∷ ys) (suc k) l = at_mapped f ys k (omega (arith, l))
