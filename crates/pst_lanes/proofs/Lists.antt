-- The starts and the ends of a lane, as lists.
use Rattle.std.proofs.Common.{◌≡◌, ℕ, List, [], ◌∷◌, ◌++◌, Bool, true, false, refl, sym, ap, ap₂, ◌∙◌, subst, ⊎_elim, append_assoc}
use Rattle.std.specs.Prelude.{Contains, nat_eq, ◌||◌}
use Rattle.std.specs.List.{list_any}
use Rattle.std.proofs.lemmas.Bool.{eqb-true, eq-eqb}
use Rattle.std.proofs.lemmas.List.Elements.{Contains-append_left, Contains-append_right, Contains-append_cases}
use Rattle.pst_scen.specs.declared.event.Event.{Event}
use Rattle.pst_scen.specs.declared.event.Event.TheVariants.{Start, End}
use Rattle.pst_scen.specs.Trace.{StartsOn, Ended}
use Rattle.pst_lanes.specs.Lanes.{only_if, starts_on, ends_among}
use Rattle.pst_lanes.proofs.Elements.{none_in, cons_cases, cons_first, cons_rest, one_in, contains_or}
use Rattle.pst_lanes.proofs.Events.{same_act, same_lane}

-- TWO PARTS

pub starts_append : (lane : ℕ) (t u : List Event) → starts_on lane (t ++ u) ≡ starts_on lane t ++ starts_on lane u
starts_append lane [] u = refl
starts_append lane (Start a l more ∷ t) u =
    ap (λ xs. only_if (nat_eq l lane) a ++ xs) (starts_append lane t u) ∙ sym (append_assoc (only_if (nat_eq l lane) a) (starts_on lane t) (starts_on lane u))
starts_append lane (End a ∷ t) u = starts_append lane t u

pub ends_append : (acts : List ℕ) (t u : List Event) → ends_among acts (t ++ u) ≡ ends_among acts t ++ ends_among acts u
ends_append acts [] u = refl
ends_append acts (Start a l more ∷ t) u = ends_append acts t u
ends_append acts (End a ∷ t) u =
    ap (λ xs. only_if (list_any (nat_eq a) acts) a ++ xs) (ends_append acts t u) ∙ sym (append_assoc (only_if (list_any (nat_eq a) acts) a) (ends_among acts t) (ends_among acts u))

-- ELEMENTS

in_only : (b : Bool) (a x : ℕ) → Contains (only_if b a) x → (b ≡ true) × (a ≡ x)
in_only true a x h = (refl, one_in a x h)
in_only false a x h = absurd (none_in x h)

only_in : (b : Bool) (a : ℕ) → b ≡ true → Contains (only_if b a) a
only_in b a e = subst (λ v. Contains (only_if v a) a) (sym e) (cons_first a [])

pub in_starts : (lane : ℕ) (t : List Event) (a : ℕ) → StartsOn t a lane → Contains (starts_on lane t) a
in_starts lane [] a h = absurd (none_in (Start a lane h.0) h.1)
in_starts lane (Start b l more ∷ t) a h =
    ⊎_elim
    (λ e. subst (λ v. Contains (only_if (nat_eq l lane) b ++ starts_on lane t) v) (same_act b l a lane more h.0 e)
    (Contains-append_left (only_if (nat_eq l lane) b) (starts_on lane t) b (only_in (nat_eq l lane) b (eq-eqb l lane (same_lane b l a lane more h.0 e)))))
    (λ k. Contains-append_right (only_if (nat_eq l lane) b) (starts_on lane t) a (in_starts lane t a (h.0, k)))
    (cons_cases (Start b l more) (Start a lane h.0) t h.1)
in_starts lane (End b ∷ t) a h = ⊎_elim (λ e. absurd cc) (λ k. in_starts lane t a (h.0, k)) (cons_cases (End b) (Start a lane h.0) t h.1)

pub starts_in : (lane : ℕ) (t : List Event) (a : ℕ) → Contains (starts_on lane t) a → StartsOn t a lane
starts_in lane [] a h = absurd (none_in a h)
starts_in lane (Start b l more ∷ t) a h =
    ⊎_elim
    (λ k. let q = in_only (nat_eq l lane) b a k in
    let on : l ≡ lane = eqb-true l lane q.0 in
    let same : Start b l more ≡ Start a lane more = λ i. Start (q.1 i) (on i) more in
    (more, subst (λ e. Contains (Start b l more ∷ t) e) same (cons_first (Start b l more) t)))
    (λ k. let r = starts_in lane t a k in (r.0, cons_rest (Start b l more) (Start a lane r.0) t r.1))
    (Contains-append_cases (only_if (nat_eq l lane) b) (starts_on lane t) a h)
starts_in lane (End b ∷ t) a h = let r = starts_in lane t a h in (r.0, cons_rest (End b) (Start a lane r.0) t r.1)

any_head : (a b : ℕ) (acts : List ℕ) → (list_any (nat_eq a) acts ≡ true → Contains acts a) → (v : Bool) → nat_eq a b ≡ v → (v || list_any (nat_eq a) acts) ≡ true → Contains (b ∷ acts) a
any_head a b acts rest true is e = subst (λ x. Contains (b ∷ acts) x) (sym (eqb-true a b is)) (cons_first b acts)
any_head a b acts rest false is e = cons_rest b a acts (rest e)

pub any_true : (a : ℕ) (acts : List ℕ) → list_any (nat_eq a) acts ≡ true → Contains acts a
any_true a [] e = let both : false ≡ true = e in absurd cc
any_true a (b ∷ acts) e = any_head a b acts (any_true a acts) (nat_eq a b) refl e

or_true : (v : Bool) → (v || true) ≡ true
or_true true = refl
or_true false = refl

pub true_any : (a : ℕ) (acts : List ℕ) → Contains acts a → list_any (nat_eq a) acts ≡ true
true_any a [] h = absurd (none_in a h)
true_any a (b ∷ acts) h =
    ⊎_elim (λ e. ap (λ v. v || list_any (nat_eq a) acts) (eq-eqb a b (sym e))) (λ k. ap (λ v. nat_eq a b || v) (true_any a acts k) ∙ or_true (nat_eq a b)) (cons_cases b a acts h)

pub any_false : (a : ℕ) (acts : List ℕ) → (Contains acts a → ⊥) → list_any (nat_eq a) acts ≡ false
any_false a acts n = by_value (list_any (nat_eq a) acts) refl
  where
    by_value : (v : Bool) → list_any (nat_eq a) acts ≡ v → v ≡ false
    by_value true is = absurd (n (any_true a acts is))
    by_value false is = refl

pub ends_in : (acts : List ℕ) (t : List Event) (a : ℕ) → Contains (ends_among acts t) a → Ended t a
ends_in acts [] a h = absurd (none_in a h)
ends_in acts (Start b l more ∷ t) a h = cons_rest (Start b l more) (End a) t (ends_in acts t a h)
ends_in acts (End b ∷ t) a h =
    ⊎_elim (λ k. subst (λ v. Contains (End b ∷ t) (End v)) (in_only (list_any (nat_eq b) acts) b a k).1 (cons_first (End b) t)) (λ k. cons_rest (End b) (End a) t (ends_in acts t a k))
    (Contains-append_cases (only_if (list_any (nat_eq b) acts) b) (ends_among acts t) a h)

-- actions that haven't ended change nothing
pub ends_same : (xs ys : List ℕ) (t : List Event) → ((a : ℕ) → Contains ys a → Ended t a → ⊥) → ends_among (xs ++ ys) t ≡ ends_among xs t
ends_same xs ys [] n = refl
ends_same xs ys (Start a l more ∷ t) n = ends_same xs ys t (λ b c e. n b c (cons_rest (Start a l more) (End b) t e))
ends_same xs ys (End a ∷ t) n =
    ap₂ (λ v es. only_if v a ++ es) same (ends_same xs ys t (λ b c e. n b c (cons_rest (End a) (End b) t e)))
  where
    same : list_any (nat_eq a) (xs ++ ys) ≡ list_any (nat_eq a) xs
    same =
        ⊎_elim (λ c. true_any a (xs ++ ys) (Contains-append_left xs ys a c) ∙ sym (true_any a xs c))
        (λ m. any_false a (xs ++ ys) (λ c. ⊎_elim m (λ d. n a d (cons_first (End a) t)) (Contains-append_cases xs ys a c)) ∙ sym (any_false a xs m))
        (contains_or xs a)
