-- Where no constraint over the blanks is refused, the list behind the sources refuses none.
use Rattle.std.proofs.Common.{◌≡◌, ◌≢◌, ◌⊎◌, inl, inr, ⊎_elim, ℕ, zero, suc, ◌+◌, ◌<◌, ◌≤◌, ℤ, List, [], ◌∷◌, length, map, Bool, true, false, nat_lt, if◌then◌else◌, Option, Some, None, refl, sym, ap, ◌∙◌, subst, slice_set, arith}
use Rattle.std.specs.Prelude.{slice_get}
use Rattle.std.specs.Int.Signed.{≤ℤ_refl}
use Rattle.std.proofs.lemmas.Bool.{cases_lt}
use Rattle.std.proofs.lemmas.List.{get_or-set_other}
use Rattle.std.proofs.lemmas.Option.{none-some, same_Some}
use Rattle.pst_rng.specs.Words.{start_of}
use Rattle.pst_expr.specs.declared.ranges.Span.{Span}
use Rattle.pst_expr.specs.Spans.{size_of}
use Rattle.pst_expr.specs.Value.{variable_value}
use Rattle.pst_domain.specs.Bounds.{bound_of, IsInside, AreInside}
use Rattle.pst_model.specs.ModelTree.{ModelTree}
use Rattle.pst_scen.specs.declared.act.Act.{Act}
use Rattle.pst_scen.specs.declared.scenario.Scenario.{Scenario}
use Rattle.pst_legal.specs.Blanks.{Blank, options, domain_of}
use Rattle.pst_legal.specs.Standing.{hull}
use Rattle.pst_legal.specs.Reading.{Reading, Wants, Stops, option_at}
use Rattle.pst_legal.specs.ValueReading.{answer_of, with_option, read_blanks}
use Rattle.pst_built.specs.SoFar.{HasRead}
use Rattle.pst_built.proofs.Values.{IsSameOrder}
use Rattle.pst_read_slots.proofs.Same.{same_then, option_same}
use Rattle.pst_read_domains.proofs.Same.{same_domain}
use Rattle.pst_few_places.specs.Fillings.{all_blanks, filled, named}
use Rattle.pst_blank_values.specs.Values.{blank_values, value_of_option}
use Rattle.pst_written_constraints.specs.Spans.{blank_hulls}
use Rattle.pst_written_constraints.specs.Open.{blank_bounds}
use Rattle.pst_reasons.specs.Giving.{with_given}
use Rattle.pst_value_search.specs.Values.{point, points_from, points}
use Rattle.pst_value_search.specs.Laws.{AreNamed}

pub inside_self : (b : Option Span) → IsInside b b
inside_self None = tt
inside_self (Some s) = (≤ℤ_refl s.low, ≤ℤ_refl s.high)

-- ---- bounds that hold the values given

at_set : (bounds : List (Option Span)) (n : ℕ) (b outer : Option Span) → IsInside b outer → IsInside (bound_of (slice_set bounds n b) n) outer
at_set [] zero b outer h = tt
at_set [] (suc n) b outer h = tt
at_set (x ∷ xs) zero b outer h = h
at_set (x ∷ xs) (suc n) b outer h = at_set xs n b outer h

given_inside : (n : ℕ) (values : List ℤ) (bounds outer : List (Option Span)) → ((i : ℕ) → (i < n) ⊎ (n + length values ≤ i) → IsInside (bound_of bounds i) (bound_of outer i))
    → ((i : ℕ) (v : ℤ) → slice_get values i ≡ Some v → bound_of outer (n + i) ≡ Some (point v)) → AreInside (with_given bounds (points_from n values)) outer
given_inside n [] bounds outer rest each = λ i. rest i (⊎_elim (λ (l : i < n). inl l) (λ (l : n ≤ i). inr (omega (arith, l))) (cases_lt i n))
given_inside n (v ∷ vs) bounds outer rest each = given_inside (n + 1) vs (slice_set bounds n (Some (point v))) outer rest_there each_there
  where
    here : IsInside (Some (point v)) (bound_of outer n)
    here =
        let z : n ≡ n + 0 = omega arith in
        let is : bound_of outer n ≡ Some (point v) = ap (bound_of outer) z ∙ each 0 v refl in
        subst (IsInside (Some (point v))) (sym is) (inside_self (Some (point v)))

    apart : (i : ℕ) → i ≢ n → IsInside (bound_of bounds i) (bound_of outer i) → IsInside (bound_of (slice_set bounds n (Some (point v))) i) (bound_of outer i)
    apart i other h = subst (λ b. IsInside b (bound_of outer i)) (sym (get_or-set_other bounds n i (Some (point v)) None other)) h

    rest_there : (i : ℕ) → (i < n + 1) ⊎ (n + 1 + length vs ≤ i) → IsInside (bound_of (slice_set bounds n (Some (point v))) i) (bound_of outer i)
    rest_there i h = ⊎_elim
        (λ (l : i < n). apart i (λ e. let bad : ⊥ = omega (arith, l, e) in bad) (rest i (inl l)))
        (λ (l : n ≤ i). ⊎_elim
        (λ (k : i < n + 1).
        let e : n ≡ i = omega (arith, l, k) in
        subst (λ j. IsInside (bound_of (slice_set bounds n (Some (point v))) j) (bound_of outer j)) e (at_set bounds n (Some (point v)) (bound_of outer n) here))
        (λ (k : n + 1 + length vs ≤ i). apart i (λ e. let bad : ⊥ = omega (arith, k, e) in bad) (rest i (inr (omega (arith, k)))))
        h)
        (cases_lt i n)

    each_there : (i : ℕ) (w : ℤ) → slice_get vs i ≡ Some w → bound_of outer (n + 1 + i) ≡ Some (point w)
    each_there i w e = let z : n + 1 + i ≡ n + suc i = omega arith in ap (bound_of outer) z ∙ each (suc i) w e

module _ (m : ModelTree) (acts : List Act) where
  bounds_at : (blanks : List Blank) (chosen : List ℕ) (i : ℕ) (v : ℤ) → variable_value (blank_values m acts blanks chosen) i ≡ Some v → bound_of (blank_bounds m acts blanks chosen) i ≡ Some (point v)
  bounds_at [] chosen zero v e = absurd (none-some v e)
  bounds_at [] chosen (suc i) v e = absurd (none-some v e)
  bounds_at (b ∷ blanks) [] zero v e = absurd (none-some v e)
  bounds_at (b ∷ blanks) [] (suc i) v e = absurd (none-some v e)
  bounds_at (b ∷ blanks) (k ∷ chosen) zero v e = ap (λ w. Some (point w)) (same_Some (value_of_option m acts b k) v e)
  bounds_at (b ∷ blanks) (k ∷ chosen) (suc i) v e = bounds_at blanks chosen i v e

  hulls_at : (blanks : List Blank) (chosen : List ℕ) (i : ℕ) → length chosen ≤ i → bound_of (blank_bounds m acts blanks chosen) i ≡ bound_of (map (λ blank. hull (domain_of m acts blank)) blanks) i
  hulls_at [] chosen i l = refl
  hulls_at (b ∷ blanks) [] zero l = refl
  hulls_at (b ∷ blanks) [] (suc i) l = hulls_at blanks [] i (omega arith)
  hulls_at (b ∷ blanks) (k ∷ chosen) zero l = let bad : ⊥ = omega (arith, l) in absurd bad
  hulls_at (b ∷ blanks) (k ∷ chosen) (suc i) l = hulls_at blanks chosen i (omega (arith, l))

  pub bounds_long : (blanks : List Blank) (chosen : List ℕ) → length (blank_bounds m acts blanks chosen) ≡ length blanks
  bounds_long [] chosen = refl
  bounds_long (b ∷ blanks) [] = ap suc (bounds_long blanks [])
  bounds_long (b ∷ blanks) (k ∷ chosen) = ap suc (bounds_long blanks chosen)

  named_short : (seed : ℕ) (blanks : List Blank) (place : ℕ) (xs : List ℕ) → length (named m seed acts blanks place xs) ≤ length xs
  named_short seed [] place xs = omega arith
  named_short seed (b ∷ blanks) place [] = omega arith
  named_short seed (b ∷ blanks) place (d ∷ xs) = let l = named_short seed blanks (place + 1) xs in omega (arith, l)

-- the values that choices name, as points, and the bounds at the start lie within those of blanks with these options
pub given_in_blanks : (m : ModelTree) (seed : ℕ) (u : Scenario) (place : ℕ) (present : List ℕ) (values : List ℤ) (bounds : List (Option Span)) → AreNamed m seed u place present values → AreInside bounds (blank_hulls m u)
    → AreInside (with_given bounds (points values)) (blank_bounds m u.actions (all_blanks m u) (named m seed u.actions (all_blanks m u) place present))
given_in_blanks m seed u place present values bounds names inside =
    let blanks = all_blanks m u in
    let chosen = named m seed u.actions blanks place present in
    let outer = blank_bounds m u.actions blanks chosen in
    let short = named_short m u.actions seed blanks place present in
    let many = names.many in
    given_inside 0 values bounds outer
    (λ i h. ⊎_elim
    (λ (l : i < 0). let bad : ⊥ = omega (arith, l) in absurd bad)
    (λ (l : 0 + length values ≤ i). subst (IsInside (bound_of bounds i)) (sym (hulls_at m u.actions blanks chosen i (omega (arith, l, short, many)))) (inside i))
    h)
    (λ i v e. let z : 0 + i ≡ i = omega arith in ap (bound_of outer) z ∙ bounds_at m u.actions blanks chosen i v (names.each i v e))

-- ---- what is read behind the sources

pub read_by : (b : Bool) (s t : Scenario) (n : ℕ) → HasRead (answer_of (if b then Wants s n else Stops)) t → t ≡ s
read_by true s t n has = sym has
read_by false s t n has = absurd has

went_by : (b : Bool) (r : Reading) (t : Scenario) → HasRead (answer_of (if b then r else Stops)) t → HasRead (answer_of r) t
went_by true r t has = has
went_by false r t has = absurd has

-- the scenario with the options in its blanks that the choices name
pub read_filled : (m : ModelTree) (seed : ℕ) (u : Scenario) (blanks : List Blank) (s : Scenario) (place : ℕ) (choices : List ℕ) (t : Scenario) → IsSameOrder u s → HasRead (answer_of (read_blanks m seed blanks s place choices)) t
    → t ≡ filled m blanks (named m seed u.actions blanks place choices) s
read_filled m seed u [] s place [] t same has = sym has
read_filled m seed u [] s place (d ∷ choices) t same has = absurd has
read_filled m seed u (blank ∷ blanks) s place [] t same has = read_by (nat_lt 0 (options m s.actions blank)) s t (options m s.actions blank) has
read_filled m seed u (blank ∷ blanks) s place (d ∷ choices) t same has =
    let n = options m s.actions blank in
    let many = options m u.actions blank in
    let k = option_at (start_of seed place n) n d in
    let equal : n ≡ many = ap size_of (same_domain u s same m blank) in
    let named_same : k ≡ option_at (start_of seed place many) many d = ap (λ c. option_at (start_of seed place c) c d) equal in
    let next = with_option m k blank s in
    read_filled m seed u blanks next (place + 1) choices t (same_then u s next same (option_same m s k blank)) (went_by (nat_lt d n) (read_blanks m seed blanks next (place + 1) choices) t has)
    ∙ ap (λ c. filled m blanks (named m seed u.actions blanks (place + 1) choices) (with_option m c blank s)) named_same
