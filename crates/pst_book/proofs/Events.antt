-- What a trace says is decided, and how long a block is.
use Rattle.std.proofs.Common.{◌≡◌, ◌⊎◌, ◌<◌, ℕ, zero, suc, sym, List, [], ◌∷◌, length, min, subst, inl, inr, ⊎_elim, arith}
use Rattle.std.specs.Prelude.{Contains}
use Rattle.std.proofs.lemmas.Bool.{cases_eq}
use Rattle.pst_scen.specs.declared.event.Event.{Event}
use Rattle.pst_scen.specs.declared.event.Event.TheVariants.{Start, End}
use Rattle.pst_scen.specs.Trace.{Ended, starts_of}
use Rattle.pst_book.proofs.Elements.{none_in, cons_cases, cons_first, cons_rest}

pub ended_or : (t : List Event) (a : ℕ) → Ended t a ⊎ (Ended t a → ⊥)
ended_or [] a = inr (none_in (End a))
ended_or (Start b l more ∷ es) a =
    ⊎_elim (λ h. inl (cons_rest (Start b l more) (End a) es h)) (λ n. inr (λ h. ⊎_elim (λ e. cc) n (cons_cases (Start b l more) (End a) es h))) (ended_or es a)
ended_or (End b ∷ es) a =
    ⊎_elim (λ e. inl (subst (λ v. Contains (End b ∷ es) (End v)) e (cons_first (End b) es)))
    (λ ne. ⊎_elim (λ h. inl (cons_rest (End b) (End a) es h)) (λ n. inr (λ h. ⊎_elim (λ e. ne (inner b a e)) n (cons_cases (End b) (End a) es h))) (ended_or es a))
    (cases_eq b a)
  where
    inner : (b a : ℕ) → End b ≡ End a → b ≡ a
    inner b a e = cc

pub length_starts : (ms ls : List ℕ) → length (starts_of ms ls) ≡ min (length ls) (length ms)
length_starts [] ls = omega arith
length_starts (m ∷ ms) [] = omega arith
length_starts (m ∷ []) (x ∷ ls) = omega arith
length_starts (m ∷ n ∷ ms) (x ∷ ls) = let e = length_starts (n ∷ ms) ls in omega (arith, e)

-- where not all of the first so many actions have ended, there is one that hasn't
pub some_left : (n : ℕ) (t : List Event) → (((a : ℕ) → a < n → Ended t a) → ⊥) → (a : ℕ) × (a < n) × (Ended t a → ⊥)
some_left zero t some = absurd (some (λ a l. absurd (omega (arith, l))))
some_left (suc n) t some = ⊎_elim
    (λ last. let q = some_left n t (λ all. some (λ a l. ⊎_elim (λ e. subst (λ v. Ended t v) (sym e) last) (λ ne. all a (omega (arith, l, ne))) (cases_eq a n))) in
    let below = q.1 in (q.0, omega (arith, below), q.2))
    (λ none. (n, omega arith, none)) (ended_or t n)
