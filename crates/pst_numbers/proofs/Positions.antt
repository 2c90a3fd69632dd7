-- The first place of a list at which a test holds, as the list grows.
use Rattle.std.proofs.Common.{◌≡◌, ℕ, ◌+◌, ◌<◌, ◌≤◌, Bool, true, false, not, List, [], ◌∷◌, ◌++◌, length, nat_lt, refl, sym, ap, ◌∙◌, cond, Option, arith, ⊎_elim}
use Rattle.std.specs.Prelude.{Some, None, position}
use Rattle.std.specs.List.{position_or_len}
use Rattle.std.proofs.Math.Dec.{eqb}
use Rattle.std.proofs.lemmas.Bool.{lt-ltb, le-ltb}
use Rattle.std.proofs.lemmas.Bool.Decides.{eqb_tells}
use Rattle.std.proofs.lemmas.List.{length-append}
use Rattle.std.proofs.lemmas.List.Folds.{position_or_len_push}
use Rattle.std.proofs.lemmas.List.Sums.{prefix_len-le-length}
use Rattle.pst_numbers.specs.Ranked.{or_new}

pub kept : (found : Option ℕ) (n : ℕ) → found ≡ or_new found false n
kept (Some k) n = refl
kept None n = refl

module _ (k n k' n' : ℕ) (le : k ≤ n) (longer : n' ≡ n + 1) where
  found_before : k < n → k' ≡ k → (b : Bool) → cond (nat_lt k' n') (Some k') None ≡ or_new (cond (nat_lt k n) (Some k) None) b n
  found_before lt same b =
      ap (λ (x : Bool). cond x (Some k') None) (lt-ltb k' n' (omega (arith, lt, longer, same)))
      ∙ ap (λ (i : ℕ). Some i) same
      ∙ sym (ap (λ (x : Bool). or_new (cond x (Some k) None) b n) (lt-ltb k n lt))

  found_here : k ≡ n → (b : Bool) → k' ≡ n + cond b 0 1 → cond (nat_lt k' n') (Some k') None ≡ or_new (cond (nat_lt k n) (Some k) None) b n
  found_here end true is =
      ap (λ (x : Bool). cond x (Some k') None) (lt-ltb k' n' (omega (arith, is, longer)))
      ∙ ap (λ (i : ℕ). Some i) (omega (arith, is))
      ∙ sym (ap (λ (x : Bool). or_new (cond x (Some k) None) true n) (le-ltb k n (omega (arith, end))))
  found_here end false is =
      ap (λ (x : Bool). cond x (Some k') None) (le-ltb k' n' (omega (arith, is, longer)))
      ∙ sym (ap (λ (x : Bool). or_new (cond x (Some k) None) false n) (le-ltb k n (omega (arith, end))))

  found : (b : Bool) → k' ≡ cond (eqb k n) (n + cond b 0 1) k → cond (nat_lt k' n') (Some k') None ≡ or_new (cond (nat_lt k n) (Some k) None) b n
  found b is = ⊎_elim
      (λ e. found_here e.1 b (is ∙ ap (λ (x : Bool). cond x (n + cond b 0 1) k) e.0))
      (λ e. found_before (omega (arith, le, e.1)) (is ∙ ap (λ (x : Bool). cond x (n + cond b 0 1) k) e.0) b)
      (eqb_tells k n)

module _ {X : Type 0} (p : X → Bool) where
  within : (xs : List X) → position_or_len p xs ≤ length xs
  within xs = prefix_len-le-length (λ x. not (p x)) xs

  pub position_more : (xs : List X) (y : X) → position p (xs ++ y ∷ []) ≡ or_new (position p xs) (p y) (length xs)
  position_more xs y =
      found (position_or_len p xs) (length xs) (position_or_len p (xs ++ y ∷ [])) (length (xs ++ y ∷ [])) (within xs) (length-append xs (y ∷ [])) (p y) (position_or_len_push p xs y)
