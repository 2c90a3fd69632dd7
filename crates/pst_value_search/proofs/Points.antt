-- Values as the spans by which they are given.
use Rattle.std.proofs.Common.{◌≡◌, ◌⊎◌, ℕ, zero, suc, ◌+◌, ◌<◌, ◌≤◌, ℤ, List, [], ◌∷◌, ◌++◌, length, take, Bool, true, false, nat_lt, cond, Option, Some, None, refl, sym, ap, ◌∙◌, subst, arith}
use Rattle.std.specs.Prelude.{slice_get, Contains, filter}
use Rattle.std.specs.Int.Signed.{≤ℤ_refl}
use Rattle.std.proofs.lemmas.Bool.{lt-ltb, ltb-true}
use Rattle.std.proofs.lemmas.Option.{none-some, same_Some, slice_get_within}
use Rattle.pst_expr.specs.declared.ranges.Span.{Span}
use Rattle.pst_expr.specs.Tree.{Expression}
use Rattle.pst_expr.specs.Value.{variable_value}
use Rattle.pst_domain.specs.Bounds.{Holds}
use Rattle.pst_narrow.specs.Solutions.{AreMet}
use Rattle.pst_narrow.specs.Local.{LiesWithin}
use Rattle.pst_reasons.specs.declared.step.Given.{Given}
use Rattle.pst_reasons.specs.Reasons.{Agree, AreReasons}
use Rattle.pst_value_search.specs.Values.{point, points_from, points}

pub length_points : (number : ℕ) (values : List ℤ) → length (points_from number values) ≡ length values
length_points number [] = refl
length_points number (v ∷ vs) = ap suc (length_points (number + 1) vs)

pub points_more : (number : ℕ) (values : List ℤ) (v : ℤ) → points_from number (values ++ v ∷ []) ≡ points_from number values ++ record { variable = number + length values; span = point v } ∷ []
points_more number [] v = let e : number ≡ number + 0 = omega arith in ap (λ n. record { variable = n; span = point v } ∷ []) e
points_more number (w ∷ vs) v =
    let e : number + 1 + length vs ≡ number + length (w ∷ vs) = omega arith in
    ap (λ xs. record { variable = number; span = point w } ∷ xs)
    (points_more (number + 1) vs v ∙ ap (λ n. points_from (number + 1) vs ++ record { variable = n; span = point v } ∷ []) e)

-- each is that of the value of its number
pub record IsPoint (values : List ℤ) (number i : ℕ) (g : Given) : Type 0 where
  pub value : ℤ
  pub there : slice_get values i ≡ Some value
  pub is : g ≡ record { variable = number + i; span = point value }

pub point_at : (number : ℕ) (values : List ℤ) (i : ℕ) (g : Given) → slice_get (points_from number values) i ≡ Some g → IsPoint values number i g
point_at number [] i g e = absurd (none-some g e)
point_at number (v ∷ vs) zero g e =
    let n : number ≡ number + 0 = omega arith in
    record { value = v; there = refl; is = sym (same_Some (record { variable = number; span = point v }) g e) ∙ ap (λ n. record { variable = n; span = point v }) n }
point_at number (v ∷ vs) (suc i) g e =
    let rest = point_at (number + 1) vs i g e in
    let n : number + 1 + i ≡ number + suc i = omega arith in
    record { value = rest.value; there = rest.there; is = rest.is ∙ ap (λ n. record { variable = n; span = point rest.value }) n }

get_taken : (n : ℕ) (number : ℕ) (values : List ℤ) (i : ℕ) (g : Given) → slice_get (points_from number (take n values)) i ≡ Some g → slice_get (points_from number values) i ≡ Some g
get_taken zero number values i g e = absurd (none-some g e)
get_taken (suc n) number [] i g e = e
get_taken (suc n) number (v ∷ vs) zero g e = e
get_taken (suc n) number (v ∷ vs) (suc i) g e = get_taken n (number + 1) vs i g e

-- reasons of the first values are reasons of them all
pub more_reasons : (es : List Expression) (n : ℕ) (values : List ℤ) (start : List (Option Span)) (places : List ℕ) → AreReasons es (points (take n values)) start places → AreReasons es (points values) start places
more_reasons es n values start places reasons vs met within agree = reasons vs met within (λ k g e there. agree k g (get_taken n 0 values k g e) there)

-- ---- places below a count

below_head : (x : ℕ) (rest : List ℕ) (i : ℕ) (b : Bool) → b ≡ true → x ≡ i → Contains (cond b (x ∷ rest) rest) i
below_head x rest i true t e = (0, omega arith, e)
below_head x rest i false t e = absurd cc

below_test : (x : ℕ) (rest : List ℕ) (i : ℕ) (b : Bool) → Contains rest i → Contains (cond b (x ∷ rest) rest) i
below_test x rest i true (k, l, e) = (suc k, omega (arith, l), e)
below_test x rest i false h = h

pub below_kept : (count : ℕ) (places : List ℕ) (i : ℕ) → Contains places i → i < count → Contains (filter (λ j. nat_lt j count) places) i
below_kept count [] i (k, l, e) small = let bad : ⊥ = omega (arith, l) in absurd bad
below_kept count (x ∷ xs) i (zero, l, e) small = below_head x (filter (λ j. nat_lt j count) xs) i (nat_lt x count) (ap (λ j. nat_lt j count) e ∙ lt-ltb i count small) e
below_kept count (x ∷ xs) i (suc k, l, e) small = below_test x (filter (λ j. nat_lt j count) xs) i (nat_lt x count) (below_kept count xs i (k, omega (arith, l), e) small)

kept_head : (count x : ℕ) (rest : List ℕ) (i : ℕ) → nat_lt x count ≡ true → (Contains rest i → i < count) → Contains (x ∷ rest) i → i < count
kept_head count x rest i t each (zero, l, e) = subst (λ j. j < count) e (ltb-true x count t)
kept_head count x rest i t each (suc k, l, e) = each (k, omega (arith, l), e)

kept_test : (count x : ℕ) (rest : List ℕ) (i : ℕ) (b : Bool) → nat_lt x count ≡ b → (Contains rest i → i < count) → Contains (cond b (x ∷ rest) rest) i → i < count
kept_test count x rest i true t each h = kept_head count x rest i t each h
kept_test count x rest i false t each h = each h

pub kept_below : (count : ℕ) (places : List ℕ) (i : ℕ) → Contains (filter (λ j. nat_lt j count) places) i → i < count
kept_below count [] i (k, l, e) = let bad : ⊥ = omega (arith, l) in absurd bad
kept_below count (x ∷ xs) i h = kept_test count x (filter (λ j. nat_lt j count) xs) i (nat_lt x count) refl (λ r. kept_below count xs i r) h

-- so few places are enough
pub few_reasons : (es : List Expression) (given : List Given) (count : ℕ) (start : List (Option Span)) (places : List ℕ) → length given ≡ count → AreReasons es given start places
    → AreReasons es given start (filter (λ j. nat_lt j count) places)
few_reasons es given count start places many reasons vs met within agree =
    reasons vs met within
    (λ k g e there.
    let small : k < length given = slice_get_within given k g e in
    agree k g e (below_kept count places k there (omega (arith, small, many))))

-- ---- values that agree

pub get_more : (xs ys : List ℤ) (i : ℕ) (v : ℤ) → slice_get xs i ≡ Some v → slice_get (xs ++ ys) i ≡ Some v
get_more [] ys i v e = absurd (none-some v e)
get_more (x ∷ xs) ys zero v e = e
get_more (x ∷ xs) ys (suc i) v e = get_more xs ys i v e

pub get_next : (xs : List ℤ) (v : ℤ) → slice_get (xs ++ v ∷ []) (length xs) ≡ Some v
get_next [] v = refl
get_next (x ∷ xs) v = get_next xs v

pub contains_more : (x : ℕ) (xs : List ℕ) (i : ℕ) → Contains xs i → Contains (x ∷ xs) i
contains_more x xs i (k, l, e) = (suc k, omega (arith, l), e)

pub values_agree : (places : List ℕ) (values : List ℤ) (vs : List (Option ℤ)) → ((i : ℕ) (v : ℤ) → Contains places i → slice_get values i ≡ Some v → variable_value vs i ≡ Some v) → Agree places (points values) vs
values_agree places values vs same k g e there =
    let p = point_at 0 values k g e in
    let n : 0 + k ≡ k = omega arith in
    let own : variable_value vs k ≡ Some p.value = same k p.value there p.there in
    subst (λ (x : Given). Holds (Some x.span) (variable_value vs x.variable)) (sym p.is)
    (subst (λ o. Holds (Some (point p.value)) o) (sym (ap (variable_value vs) n ∙ own)) (≤ℤ_refl p.value, ≤ℤ_refl p.value))
