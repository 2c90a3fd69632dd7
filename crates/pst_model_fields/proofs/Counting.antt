-- Numbers one after another.
use Rattle.std.proofs.Common.{◌≡◌, ℕ, zero, suc, ◌+◌, ◌-◌, ◌<◌, List, [], ◌∷◌, ◌++◌, map, append_assoc, arith, refl, ap, sym, ◌∙◌}
use Rattle.pst_terms.specs.Fields.{counted}

-- as many from one on as are left
pub counted_next : (n i : ℕ) → i < n → counted i (n - i) ≡ i ∷ counted (i + 1) (n - (i + 1))
counted_next n i less = let e : n - i ≡ suc (n - (i + 1)) = omega (arith, less) in ap (counted i) e

pub counted_none : (n i : ℕ) → n ≡ i → counted i (n - i) ≡ []
counted_none n i same = let e : n - i ≡ 0 = omega (arith, same) in ap (counted i) e

-- one more of them
module _ {A : Type 0} (f : ℕ → A) where
  pub elements_next : (before after all : List A) (n i : ℕ) → i < n → after ≡ before ++ f i ∷ [] → before ++ map f (counted i (n - i)) ≡ all → after ++ map f (counted (i + 1) (n - (i + 1))) ≡ all
  elements_next before after all n i less added kept =
      ap (λ (l : List A). l ++ map f (counted (i + 1) (n - (i + 1)))) added
      ∙ append_assoc before (f i ∷ []) (map f (counted (i + 1) (n - (i + 1))))
      ∙ ap (λ (l : List ℕ). before ++ map f l) (sym (counted_next n i less))
      ∙ kept
