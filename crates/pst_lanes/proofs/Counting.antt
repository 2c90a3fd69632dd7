-- How often an action starts.
use Rattle.std.proofs.Common.{◌≡◌, ℕ, ◌+◌, ◌≤◌, List, [], ◌∷◌, ◌++◌, Bool, true, false, cond, refl, sym, ap, ◌∙◌, subst, ⊎_elim, arith}
use Rattle.std.specs.Prelude.{Contains, nat_eq}
use Rattle.std.specs.List.{count_by}
use Rattle.std.proofs.lemmas.List.Sums.{sum_by-append, sum_by-cons}
use Rattle.std.proofs.lemmas.Bool.{eq-eqb, ne_eqb, cases_eq}
use Rattle.pst_scen.specs.declared.event.Event.{Event}
use Rattle.pst_scen.specs.declared.event.Event.TheVariants.{Start, End}
use Rattle.pst_scen.specs.Trace.{Started, starts_of}
use Rattle.pst_lanes.specs.Lanes.{is_start}
use Rattle.pst_lanes.proofs.Elements.{cons_first, cons_rest, Distinct, distinct_tail, distinct_head}
use Rattle.pst_lanes.proofs.Events.{starts_member}

pub count_append : (a : ℕ) (t u : List Event) → count_by (is_start a) (t ++ u) ≡ count_by (is_start a) t + count_by (is_start a) u
count_append a t u = sum_by-append (λ (e : Event). cond (is_start a e) 1 0) t u

count_cons : (a : ℕ) (e : Event) (t : List Event) → count_by (is_start a) (e ∷ t) ≡ cond (is_start a e) 1 0 + count_by (is_start a) t
count_cons a e t = sum_by-cons (λ (x : Event). cond (is_start a x) 1 0) e t

one_if : (b c : ℕ) → b ≡ c → cond {A = ℕ} (nat_eq b c) 1 0 ≡ 1
one_if b c e = ap (λ (v : Bool). cond {A = ℕ} v 1 0) (eq-eqb b c e)

none_if : (b c : ℕ) → (b ≡ c → ⊥) → cond {A = ℕ} (nat_eq b c) 1 0 ≡ 0
none_if b c n = ap (λ (v : Bool). cond {A = ℕ} v 1 0) (ne_eqb b c n)

-- none where it hasn't started
pub count_none : (a : ℕ) (t : List Event) → (Started t a → ⊥) → count_by (is_start a) t ≡ 0
count_none a [] n = refl
count_none a (Start b l more ∷ t) n =
    let first = none_if b a (λ e. n (l, (more, subst (λ v. Contains (Start b l more ∷ t) (Start v l more)) e (cons_first (Start b l more) t)))) in
    let rest = count_none a t (λ h. n (h.0, (h.1.0, cons_rest (Start b l more) (Start a h.0 h.1.0) t h.1.1))) in
    let sum : count_by (is_start a) (Start b l more ∷ t) ≡ cond (nat_eq b a) 1 0 + count_by (is_start a) t = count_cons a (Start b l more) t in
    sum ∙ (λ i. first i + rest i)
count_none a (End b ∷ t) n =
    let rest = count_none a t (λ h. n (h.0, (h.1.0, cons_rest (End b) (Start a h.0 h.1.0) t h.1.1))) in
    let sum : count_by (is_start a) (End b ∷ t) ≡ 0 + count_by (is_start a) t = count_cons a (End b) t in
    sum ∙ (λ i. 0 + rest i)

at_most_one : (b : Bool) → cond {A = ℕ} b 1 0 ≤ 1
at_most_one true = omega arith
at_most_one false = omega arith

count_first : (a m u : ℕ) (more : Bool) (t : List Event) → count_by (is_start a) t ≡ 0 → count_by (is_start a) (Start m u more ∷ t) ≤ 1
count_first a m u more t none =
    let sum : count_by (is_start a) (Start m u more ∷ t) ≡ cond (nat_eq m a) 1 0 + count_by (is_start a) t = count_cons a (Start m u more) t in
    let one = at_most_one (nat_eq m a) in
    subst (λ k. k ≤ 1) (sym (sum ∙ (λ i. cond (nat_eq m a) 1 0 + none i))) (sum_none (cond (nat_eq m a) 1 0) one)
  where
    sum_none : (k : ℕ) → k ≤ 1 → k + 0 ≤ 1
    sum_none k l = omega (arith, l)

count_rest : (a m u : ℕ) (more : Bool) (t : List Event) → (m ≡ a → ⊥) → count_by (is_start a) (Start m u more ∷ t) ≡ count_by (is_start a) t
count_rest a m u more t n =
    let sum : count_by (is_start a) (Start m u more ∷ t) ≡ cond (nat_eq m a) 1 0 + count_by (is_start a) t = count_cons a (Start m u more) t in
    let first = none_if m a n in
    sum ∙ (λ i. first i + count_by (is_start a) t) ∙ none_more (count_by (is_start a) t)
  where
    none_more : (k : ℕ) → 0 + k ≡ k
    none_more k = omega arith

-- and at most one in a block
pub count_block : (a : ℕ) (ms us : List ℕ) → Distinct ms → count_by (is_start a) (starts_of ms us) ≤ 1
count_block a [] us d = omega arith
count_block a (m ∷ ms) [] d = omega arith
count_block a (m ∷ []) (u ∷ us) d = count_first a m u false [] refl
count_block a (m ∷ n ∷ ms) (u ∷ us) d =
    ⊎_elim
    (λ e. count_first a m u true (starts_of (n ∷ ms) us)
    (count_none a (starts_of (n ∷ ms) us) (λ h. distinct_head m (n ∷ ms) d (subst (λ v. Contains (n ∷ ms) v) (sym e) (starts_member (n ∷ ms) us a h)))))
    (λ ne. subst (λ k. k ≤ 1) (sym (count_rest a m u true (starts_of (n ∷ ms) us) ne)) (count_block a (n ∷ ms) us (distinct_tail m (n ∷ ms) d)))
    (cases_eq m a)
