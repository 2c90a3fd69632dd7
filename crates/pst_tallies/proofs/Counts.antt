-- The lists of counts.
use Rattle.std.proofs.Common.{◌≡◌, ⊎_elim, ℕ, zero, suc, ◌+◌, ◌/◌, ◌%◌, ◌<◌, List, [], ◌∷◌, ◌++◌, length, get_or, refl, sym, ap, ◌∙◌, subst, arith, length-append, replicate}
use Rattle.std.proofs.lemmas.Bool.{cases_eq}
use Rattle.pst_scen.specs.declared.rows.Rows.{Rows}
use Rattle.pst_scen.specs.Rows.{Has}
use Rattle.pst_book.specs.Tables.{AreRaised, AreLowered}
use Rattle.pst_book.proofs.Lists.{at_push, at_end}
use Rattle.pst_tallies.specs.Tallies.{count_of, first_counts, counts_in, IsMoved}

many_first : (n size : ℕ) (tally : List ℕ) → length (first_counts n size tally) ≡ n
many_first zero size tally = refl
many_first (suc n) size tally =
    let one : length (first_counts n size tally ++ count_of size tally n ∷ []) ≡ length (first_counts n size tally) + 1 = length-append (first_counts n size tally) (count_of size tally n ∷ []) in
    let more = many_first n size tally in
    omega (arith, one, more)

at_first : (n size : ℕ) (tally : List ℕ) (m : ℕ) → m < n → get_or (first_counts n size tally) m 0 ≡ count_of size tally m
at_first zero size tally m l = absurd (omega (arith, l))
at_first (suc n) size tally m l =
    let many = many_first n size tally in
    ⊎_elim
    (λ e. ap (λ i. get_or (first_counts n size tally ++ count_of size tally n ∷ []) i 0) (e ∙ sym many) ∙ at_end (first_counts n size tally) (count_of size tally n) ∙ ap (λ i. count_of size tally i) (sym e))
    (λ d. at_push (first_counts n size tally) (count_of size tally n) m (omega (arith, l, d, many)) ∙ at_first n size tally m (omega (arith, l, d))) (cases_eq m n)

pub many_counts : (size : ℕ) (tally : List ℕ) → length (counts_in size tally) ≡ size
many_counts size tally = many_first size size tally

pub count_at : (size : ℕ) (tally : List ℕ) (m : ℕ) → m < size → get_or (counts_in size tally) m 0 ≡ count_of size tally m
count_at size tally m l = at_first size size tally m l

count_small : (size : ℕ) (tally : List ℕ) (m : ℕ) → count_of size tally m < 4294967296
count_small size tally m = omega arith

one_more : (x y : ℕ) → x + 1 < 4294967296 → y ≡ (x + 1) % 4294967296 → y ≡ x + 1
one_more x y small e = omega (arith, small, e)

one_less : (x y : ℕ) → 0 < x → x < 4294967296 → y ≡ (x + 4294967295) % 4294967296 → y + 1 ≡ x
one_less x y some small e = omega (arith, some, small, e)

module _ (size : ℕ) (rows : Rows) (a : ℕ) (old new : List ℕ) where
  module _ (step : ℕ) (moved : (m : ℕ) → m < size → IsMoved step (Has rows a) m (count_of size old m) (count_of size new m)) where
    many : length (counts_in size new) ≡ length (counts_in size old)
    many = many_counts size new ∙ sym (many_counts size old)

    inside : (m : ℕ) → m < length (counts_in size old) → m < size
    inside m l = let n = many_counts size old in omega (arith, l, n)

    stays : (m : ℕ) → m < length (counts_in size old) → (Has rows a m → ⊥) → get_or (counts_in size new) m 0 ≡ get_or (counts_in size old) m 0
    stays m l n = let l' = inside m l in count_at size new m l' ∙ (moved m l').same n ∙ sym (count_at size old m l')

  pub raised_by : ((m : ℕ) → m < size → Has rows a m → get_or (counts_in size old) m 0 + 1 < 4294967296) → ((m : ℕ) → m < size → IsMoved 1 (Has rows a) m (count_of size old m) (count_of size new m)) → AreRaised rows a (counts_in size old) (counts_in size new)
  raised_by room moved = record {
    many = many 1 moved;
    raised = λ m l h. let l' = inside 1 moved m l in
        count_at size new m l' ∙ one_more (count_of size old m) (count_of size new m) (subst (λ x. x + 1 < 4294967296) (count_at size old m l') (room m l' h)) ((moved m l').moved h) ∙ ap (λ x. x + 1) (sym (count_at size old m l'));
    same = stays 1 moved;
  }

  pub lowered_by : ((m : ℕ) → m < size → Has rows a m → 0 < get_or (counts_in size old) m 0) → ((m : ℕ) → m < size → IsMoved 4294967295 (Has rows a) m (count_of size old m) (count_of size new m)) → AreLowered rows a (counts_in size old) (counts_in size new)
  lowered_by some moved = record {
    many = many 4294967295 moved;
    lowered = λ m l h. let l' = inside 4294967295 moved m l in
        ap (λ x. x + 1) (count_at size new m l')
        ∙ one_less (count_of size old m) (count_of size new m) (subst (λ x. 0 < x) (count_at size old m l') (some m l' h)) (count_small size old m) ((moved m l').moved h) ∙ sym (count_at size old m l');
    same = stays 4294967295 moved;
  }

-- nothing is counted in a table of zeros
pub none_counted : (size : ℕ) (tally : List ℕ) → ((m : ℕ) → get_or tally m 0 ≡ 0) → (m : ℕ) → m < size → get_or (counts_in size tally) m 0 ≡ 0
none_counted size tally none m l = let x = none m in let y = none (size + m / 64) in let at = count_at size tally m l in omega (arith, x, y, at)

-- any entry of a list of the same numbers, or none
pub same_anywhere : (n m x : ℕ) → get_or (replicate n x) m x ≡ x
same_anywhere zero m x = refl
same_anywhere (suc n) zero x = refl
same_anywhere (suc n) (suc m) x = same_anywhere n m x

replicate_push : (n x : ℕ) → replicate n x ++ x ∷ [] ≡ replicate (suc n) x
replicate_push zero x = refl
replicate_push (suc n) x = ap (λ xs. x ∷ xs) (replicate_push n x)

zeros_first : (n size : ℕ) (tally : List ℕ) → ((m : ℕ) → get_or tally m 0 ≡ 0) → first_counts n size tally ≡ replicate n 0
zeros_first zero size tally none = refl
zeros_first (suc n) size tally none =
    let x = none n in let y = none (size + n / 64) in
    let zero_here : count_of size tally n ≡ 0 = omega (arith, x, y) in
    ap (λ xs. xs ++ count_of size tally n ∷ []) (zeros_first n size tally none) ∙ ap (λ k. replicate n 0 ++ k ∷ []) zero_here ∙ replicate_push n 0

-- nothing is counted anywhere in a table of zeros
pub none_anywhere : (size : ℕ) (tally : List ℕ) → ((m : ℕ) → get_or tally m 0 ≡ 0) → counts_in size tally ≡ replicate size 0
none_anywhere size tally none = zeros_first size size tally none
