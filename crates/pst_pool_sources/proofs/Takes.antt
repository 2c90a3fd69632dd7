-- What taking a reference out leaves, and putting it in again.
use Rattle.std.proofs.Common.{◌≡◌, ℕ, zero, suc, ◌<◌, List, [], ◌∷◌, ◌++◌, length, get_or, take, drop, min, true, false, not, ◌||◌, if◌then◌else◌, Some, refl, sym, ap, ◌∙◌, arith}
use Rattle.std.specs.List.{list_any, insert, remove}
use Rattle.std.proofs.lemmas.Bool.{eq-eqb, ne_eqb}
use Rattle.std.proofs.lemmas.List.{take_min, drop_min}
use Rattle.std.proofs.lemmas.List.Folds.{list_any_at}
use Rattle.pst_ties.specs.declared.tied.End.{End}
use Rattle.pst_ties.specs.Tieds.{same_end}
use Rattle.pst_pool_sources.specs.Offers.{without}
use Rattle.pst_pool_sources.specs.Places.{IsPlace}
use Rattle.pst_pool_sources.proofs.Rising.{same_true}

module _ (e : End) where
  pub kept_all : (xs : List End) → ((k : ℕ) (d : End) → k < length xs → same_end e (get_or xs k d) ≡ false) → xs ≡ without e xs
  kept_all [] h = refl
  kept_all (x ∷ xs) h =
      ap (λ l. x ∷ l) (kept_all xs (λ k d l. h (suc k) d (omega arith)))
      ∙ ap (λ b. if not b then x ∷ without e xs else without e xs) (sym (h 0 x (omega arith)))

  pub none_is : (xs : List End) → ((k : ℕ) (d : End) → k < length xs → same_end e (get_or xs k d) ≡ false) → false ≡ list_any (same_end e) xs
  none_is [] h = refl
  none_is (x ∷ xs) h =
      none_is xs (λ k d l. h (suc k) d (omega arith))
      ∙ ap (λ b. b || list_any (same_end e) xs) (sym (h 0 x (omega arith)))

  one_out : (xs : List End) (i : ℕ) → i < length xs → ((k : ℕ) (d : End) → k < i → same_end e (get_or xs k d) ≡ false) → ((d : End) → same_end e (get_or xs i d) ≡ true) → ((k : ℕ) (d : End) → i < k → k < length xs → same_end e (get_or xs k d) ≡ false) → remove xs i ≡ without e xs
  one_out [] i l below here above = absurd (omega arith)
  one_out (x ∷ xs) zero l below here above =
      kept_all xs (λ k d m. above (suc k) d (omega arith) (omega arith))
      ∙ ap (λ b. if not b then x ∷ without e xs else without e xs) (sym (here x))
  one_out (x ∷ xs) (suc i) l below here above =
      ap (λ l. x ∷ l) (one_out xs i (omega arith) (λ k d m. below (suc k) d (omega arith)) (λ d. here d) (λ k d m n. above (suc k) d (omega arith) (omega arith)))
      ∙ ap (λ b. if not b then x ∷ without e xs else without e xs) (sym (below 0 x (omega arith)))

  abbrev end_at : ℕ → ℕ → End
  end_at a r = record { act = a; reference = r }

  same_is : (x : End) → same_end e x ≡ true → x ≡ e
  same_is x h = let s = same_true e x h in ap (λ a. end_at a x.reference) (sym s.0) ∙ ap (end_at e.act) (sym s.1)

  in_again : (xs : List End) (i : ℕ) → i < length xs → ((d : End) → same_end e (get_or xs i d) ≡ true) → xs ≡ insert (remove xs i) i e
  in_again [] i l here = absurd (omega arith)
  in_again (x ∷ xs) zero l here = ap (λ y. y ∷ xs) (same_is x (here x))
  in_again (x ∷ xs) (suc i) l here = ap (λ l. x ∷ l) (in_again xs i (omega arith) (λ d. here d))

  module _ (xs : List End) (place : ℕ) (within : place < length xs) (is : IsPlace xs e (Some place)) where
    at_it : (d : End) → same_end e (get_or xs place d) ≡ true
    at_it d = is place d within ∙ eq-eqb place place refl

    pub taken_out : remove xs place ≡ without e xs
    taken_out =
        one_out xs place within
        (λ k d l. is k d (omega arith) ∙ ne_eqb place k (λ s. let bad : ⊥ = omega arith in bad))
        at_it
        (λ k d l m. is k d m ∙ ne_eqb place k (λ s. let bad : ⊥ = omega arith in bad))

    pub put_again : xs ≡ insert (remove xs place) place e
    put_again = in_again xs place within at_it

    pub is_found : true ≡ list_any (same_end e) xs
    is_found = sym (list_any_at (same_end e) xs place e within (at_it e))

-- a place behind the end is the end
pub put_within : (xs : List End) (place : ℕ) (e : End) → insert xs (min place (length xs)) e ≡ insert xs place e
put_within xs place e =
    ap (λ l. l ++ e ∷ drop (min place (length xs)) xs) (take_min place xs)
    ∙ ap (λ l. take place xs ++ e ∷ l) (drop_min place xs)
