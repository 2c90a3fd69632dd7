-- Loops that look for an element.
use Rattle.std.proofs.Common.{◌≡◌, ℕ, ◌+◌, ◌<◌, ◌≤◌, Bool, true, false, List, length, get_or, take, ◌∙◌, sym, subst, take_all, ⊎_elim, arith}
use Rattle.std.specs.Prelude.{All, Contains, IsTrue}
use Rattle.std.proofs.lemmas.List.Elements.{All-more, All-contains}
use Rattle.std.proofs.lemmas.Bool.{cases_eq}

pub no_more : {X : Type 0} (P : X → Type 0) (xs : List X) (i : ℕ) (d : X) (b : Bool) → i < length xs → All (λ x. P x → ⊥) (take i xs) → (P (get_or xs i d) → IsTrue b) → b ≡ false → All (λ x. P x → ⊥) (take (i + 1) xs)
no_more P xs i d b l h f e = All-more (λ x. P x → ⊥) xs i d l h (λ p. let both : true ≡ false = sym (f p) ∙ e in cc)

pub none_of : {X : Type 0} (P : X → Type 0) (xs : List X) (i : ℕ) → length xs ≤ i → All (λ x. P x → ⊥) (take i xs) → (x : X) → Contains xs x → P x → ⊥
none_of P xs i l h x k = All-contains (λ x. P x → ⊥) (take i xs) x h (subst (λ t. Contains t x) (sym (take_all i xs l)) k)

-- one number more
pub one_more : (P : ℕ → Type 0) (i : ℕ) → ((a : ℕ) → a < i → P a) → P i → (a : ℕ) → a < i + 1 → P a
one_more P i h p a l = ⊎_elim (λ e. subst (λ v. P v) (sym e) p) (λ n. h a (omega (arith, l, n))) (cases_eq a i)

-- a test that answers no
pub not_true : {P : Type 0} (b : Bool) → (P → IsTrue b) → b ≡ false → P → ⊥
not_true b f e p = let both : true ≡ false = sym (f p) ∙ e in cc
