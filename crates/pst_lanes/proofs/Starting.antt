-- What a block of starts says of a lane.
use Rattle.std.proofs.Common.{◌≡◌, ℕ, List, [], ◌∷◌, ◌++◌, length, min, true, false, refl, sym, ap, ◌∙◌, subst, ⊎_elim, arith}
use Rattle.std.specs.Prelude.{Contains}
use Rattle.std.proofs.lemmas.Bool.{eq-eqb, ne_eqb, cases_eq}
use Rattle.pst_scen.specs.declared.event.Event.TheVariants.{Start}
use Rattle.pst_scen.specs.Trace.{StartsOn, starts_of}
use Rattle.pst_lanes.specs.Lanes.{only_if, starts_on, ends_among}
use Rattle.pst_lanes.proofs.Elements.{none_in, cons_cases, cons_first, cons_rest, one_in, Distinct, distinct_tail, distinct_head}
use Rattle.pst_lanes.proofs.Events.{same_act, same_lane, starts_member}

pub no_ends : (acts ms us : List ℕ) → ends_among acts (starts_of ms us) ≡ []
no_ends acts [] us = refl
no_ends acts (m ∷ ms) [] = refl
no_ends acts (m ∷ []) (u ∷ us) = refl
no_ends acts (m ∷ n ∷ ms) (u ∷ us) = no_ends acts (n ∷ ms) us

pub length_starts : (ms us : List ℕ) → length (starts_of ms us) ≡ min (length us) (length ms)
length_starts [] us = omega arith
length_starts (m ∷ ms) [] = omega arith
length_starts (m ∷ []) (u ∷ us) = omega arith
length_starts (m ∷ n ∷ ms) (u ∷ us) = let e = length_starts (n ∷ ms) us in omega (arith, e)

-- nothing starts on another lane
pub starts_else : (lane : ℕ) (ms us : List ℕ) → (Contains us lane → ⊥) → starts_on lane (starts_of ms us) ≡ []
starts_else lane [] us n = refl
starts_else lane (m ∷ ms) [] n = refl
starts_else lane (m ∷ []) (u ∷ us) n = ap (λ b. only_if b m ++ []) (ne_eqb u lane (λ e. n (subst (λ v. Contains (u ∷ us) v) e (cons_first u us))))
starts_else lane (m ∷ k ∷ ms) (u ∷ us) n =
    ap (λ b. only_if b m ++ starts_on lane (starts_of (k ∷ ms) us)) (ne_eqb u lane (λ e. n (subst (λ v. Contains (u ∷ us) v) e (cons_first u us))))
    ∙ starts_else lane (k ∷ ms) us (λ c. n (cons_rest u lane us c))

-- one action starts on a lane of the block
pub starts_here : (lane : ℕ) (ms us : List ℕ) → length us ≡ length ms → Distinct us → Contains us lane → (a : ℕ) × (starts_on lane (starts_of ms us) ≡ a ∷ [])
starts_here lane [] [] many d c = absurd (none_in lane c)
starts_here lane [] (u ∷ us) many d c = absurd (omega (arith, many))
starts_here lane (m ∷ ms) [] many d c = absurd (none_in lane c)
starts_here lane (m ∷ []) (u ∷ []) many d c = (m, ap (λ b. only_if b m ++ []) (eq-eqb u lane (one_in u lane c)))
starts_here lane (m ∷ []) (u ∷ v ∷ us) many d c = absurd (omega (arith, many))
starts_here lane (m ∷ k ∷ ms) (u ∷ us) many d c =
    ⊎_elim
    (λ e. (
      m,
      ap (λ b. only_if b m ++ starts_on lane (starts_of (k ∷ ms) us)) (eq-eqb u lane e)
          ∙ ap (λ xs. m ∷ xs) (starts_else lane (k ∷ ms) us (λ h. distinct_head u us d (subst (λ v. Contains us v) (sym e) h))),
    ))
    (λ ne. let r = starts_here lane (k ∷ ms) us (omega (arith, many)) (distinct_tail u us d) (⊎_elim (λ e. absurd (ne e)) (λ h. h) (cons_cases u lane us c)) in
    (r.0, ap (λ b. only_if b m ++ starts_on lane (starts_of (k ∷ ms) us)) (ne_eqb u lane ne) ∙ r.1))
    (cases_eq u lane)

-- an action starts on one lane of the block
pub starts_one_lane : (ms us : List ℕ) → Distinct ms → (a l k : ℕ) → StartsOn (starts_of ms us) a l → StartsOn (starts_of ms us) a k → l ≡ k
starts_one_lane [] us d a l k p q = absurd (none_in (Start a l p.0) p.1)
starts_one_lane (m ∷ ms) [] d a l k p q = absurd (none_in (Start a l p.0) p.1)
starts_one_lane (m ∷ []) (u ∷ us) d a l k p q =
    sym (same_lane m u a l false p.0 (one_in (Start m u false) (Start a l p.0) p.1)) ∙ same_lane m u a k false q.0 (one_in (Start m u false) (Start a k q.0) q.1)
starts_one_lane (m ∷ n ∷ ms) (u ∷ us) d a l k p q =
    ⊎_elim
    (λ e. ⊎_elim (λ f. sym (same_lane m u a l true p.0 e) ∙ same_lane m u a k true q.0 f) (λ r. absurd (again k (same_act m u a l true p.0 e) (q.0, r)))
    (cons_cases (Start m u true) (Start a k q.0) (starts_of (n ∷ ms) us) q.1))
    (λ r. ⊎_elim (λ f. absurd (again l (same_act m u a k true q.0 f) (p.0, r))) (λ t. starts_one_lane (n ∷ ms) us (distinct_tail m (n ∷ ms) d) a l k (p.0, r) (q.0, t))
    (cons_cases (Start m u true) (Start a k q.0) (starts_of (n ∷ ms) us) q.1))
    (cons_cases (Start m u true) (Start a l p.0) (starts_of (n ∷ ms) us) p.1)
  where
    again : (x : ℕ) → m ≡ a → StartsOn (starts_of (n ∷ ms) us) a x → ⊥
    again x e s = distinct_head m (n ∷ ms) d (subst (λ v. Contains (n ∷ ms) v) (sym e) (starts_member (n ∷ ms) us a (x, s)))
