-- Elements of arrays that may lie in a span.
use Rattle.std.proofs.Common.{◌≡◌, ⊎_elim, ℕ, ◌+◌, ◌-◌, ◌<◌, ◌≤◌, ℤ, pos, negsuc, ◌-ℤ◌, ◌≤ℤ◌, ◌<ℤ◌, nat_abs, nat_lt, Bool, true, false, cond, List, length, Option, Some, None, option_and_then, Result, FitsSigned, w64, to_z, of_z, ◌^◌, refl, sym, ap, ap₂, subst, ◌∙◌, arith}
use Rattle.std.proofs.lemmas.Int.{ints, clamps, to_z-of_z, to_z_pos}
use lib.Signed.{lt_z}
use Rattle.std.specs.Prelude.{SomeIff}
use Rattle.std.specs.Int.{int_min, int_max}
use Rattle.std.proofs.lemmas.Bool.{cases_lt}
use Rattle.std.proofs.lemmas.Bool.Decides.{nat_tests}
use Rattle.pst_base.specs.declared.memory.NoMemory.{NoMemory}
use Rattle.pst_num.specs.Range.{is_in_range}
use Rattle.pst_expr.specs.declared.ranges.Span.{Span}
use Rattle.pst_expr.specs.Spans.{IsInSpan}
use Rattle.pst_expr.specs.Tree.{Expression, Element}
use Rattle.pst_expr.specs.Value.{value, given, variable_value, element_value}
use Rattle.pst_domain.specs.Bounds.{bound_of, AreWithin, Holds}
use Rattle.pst_domain.specs.Laws.{HoldsValues}
use Rattle.pst_narrow.specs.declared.trail.Former.{Former}
use Rattle.pst_narrow.specs.Narrowing.{IsStep, IsIn, LiesIn, GivesIn}
use Rattle.pst_narrow.specs.Elements.{HasElementsBelow, Misses, ElementLiesIn, KeepsPlaces, GivesIndex, OneLiesIn}
use Rattle.pst_narrow.proofs.NarrowLemmas.{step_from, step_then}

-- a value that is given and wanted
given_in : (w : Span) (v : Option ℤ) → IsIn w (given v) → IsIn w v
given_in w None h = absurd h
given_in w (Some x) h = go (is_in_range x) h
  where
    go : (b : Bool) → IsIn w (cond b (Some x) None) → IsInSpan x w
    go true k = k
    go false k = absurd k

-- an element that is there: its index is a place of the array, and its variable lies in the span
pub record IsFound (first count : ℕ) (w : Span) (i : ℤ) (values : List (Option ℤ)) : Type 0 where
  pub place : ℕ
  pub is : i ≡ pos place
  pub small : place < count
  pub lies : IsIn w (variable_value values (first + place))

less : (n m : ℕ) → nat_lt n m ≡ true → n < m
less n m e = grind (arith, nat_tests)

pub found : (first count : ℕ) (w : Span) (i : ℤ) (values : List (Option ℤ)) → ElementLiesIn first count w i values → IsFound first count w i values
found first count w (negsuc n) values h = absurd h
found first count w (pos n) values h = go (nat_lt n count) refl h
  where
    go : (b : Bool) → nat_lt n count ≡ b → IsIn w (given (cond b (variable_value values (first + n)) None)) → IsFound first count w (pos n) values
    go true e k = record { place = n; is = refl; small = less n count e; lies = given_in w (variable_value values (first + n)) k }
    go false e k = absurd k

holds_in : (b : Option Span) (w : Span) (v : Option ℤ) → Holds b v → IsIn w v → Misses b w → ⊥
holds_in b w None h k m = k
holds_in b w (Some x) h k m = m x h k

-- so its variable isn't missed
pub not_missed : (first count : ℕ) (w : Span) (i : ℤ) (values : List (Option ℤ)) (bounds : List (Option Span)) → HasElementsBelow (length bounds) first count → AreWithin bounds values → (f : IsFound first count w i values) → Misses (bound_of bounds (first + f.place)) w → ⊥
not_missed first count w i values bounds small within f m =
    holds_in (bound_of bounds (first + f.place)) w (variable_value values (first + f.place)) (within (first + f.place) (small f.place f.small)) f.lies m

-- ---- the least and the greatest place of a span

pub nothing_between : (a b l h : ℤ) (n count : ℕ) → l ≡ int_max a (pos 0) → h ≡ int_min b (pos count -ℤ pos 1) → h <ℤ l → a ≤ℤ pos n → pos n ≤ℤ b → n < count → ⊥
nothing_between a b l h n count e f less low high small = omega (arith, ints, clamps)

pub place_between : (a b l h : ℤ) (n count : ℕ) → l ≡ int_max a (pos 0) → h ≡ int_min b (pos count -ℤ pos 1) → a ≤ℤ pos n → pos n ≤ℤ b → n < count → (nat_abs l ≤ n) × (n ≤ nat_abs h)
place_between a b l h n count e f low high small = (omega (arith, ints, clamps), omega (arith, ints, clamps))

-- the greatest place is one of the array
pub last_place : (a b l h : ℤ) (count : ℕ) → l ≡ int_max a (pos 0) → h ≡ int_min b (pos count -ℤ pos 1) → l ≤ℤ h → nat_abs h < count
last_place a b l h count e f order = omega (arith, ints, clamps)

-- the code's numbers
pub lowest_is : (z r : ℤ) → FitsSigned w64 z → r ≡ int_max (to_z w64 (of_z w64 z)) (pos 0) → r ≡ int_max z (pos 0)
lowest_is z r f e = e ∙ ap (λ x. int_max x (pos 0)) (to_z-of_z w64 z f)

pub highest_is : (z r count : ℤ) (n : ℕ) → FitsSigned w64 z → n < 2 ^ 32 → count ≡ pos n → r ≡ int_min (to_z w64 (of_z w64 z)) (to_z w64 (of_z w64 (to_z w64 (of_z w64 count) -ℤ pos 1))) → r ≡ int_min z (pos n -ℤ pos 1)
highest_is z r count n f h c e =
    let small : FitsSigned w64 (pos n) = omega (arith, ints) in
    let less : FitsSigned w64 (pos n -ℤ pos 1) = omega (arith, ints) in
    let is : to_z w64 (of_z w64 count) -ℤ pos 1 ≡ pos n -ℤ pos 1 = ap (λ x. to_z w64 (of_z w64 x) -ℤ pos 1) c ∙ ap (λ x. x -ℤ pos 1) (to_z-of_z w64 (pos n) small) in
    e ∙ ap₂ int_min (to_z-of_z w64 z f) (ap (λ x. to_z w64 (of_z w64 x)) is ∙ to_z-of_z w64 (pos n -ℤ pos 1) less)

pub reversed : (l h : ℤ) → FitsSigned w64 l → FitsSigned w64 h → lt_z (to_z w64 (of_z w64 h)) (to_z w64 (of_z w64 l)) ≡ true → h <ℤ l
reversed l h f g t =
    let u : lt_z h l ≡ true = ap₂ lt_z (sym (to_z-of_z w64 h g)) (sym (to_z-of_z w64 l f)) ∙ t in
    grind (arith, ints)

pub in_order : (l h : ℤ) → FitsSigned w64 l → FitsSigned w64 h → lt_z (to_z w64 (of_z w64 h)) (to_z w64 (of_z w64 l)) ≡ false → l ≤ℤ h
in_order l h f g t =
    let u : lt_z h l ≡ false = ap₂ lt_z (sym (to_z-of_z w64 h g)) (sym (to_z-of_z w64 l f)) ∙ t in
    grind (arith, ints)

pub not_below : (z : ℤ) → FitsSigned w64 z → lt_z (to_z w64 (of_z w64 z)) (pos 0) ≡ false → pos 0 ≤ℤ z
not_below z f t =
    let u : lt_z z (pos 0) ≡ false = ap (λ x. lt_z x (pos 0)) (sym (to_z-of_z w64 z f)) ∙ t in
    grind (arith, ints)

-- a place that the code computes
pub place_is : (z : ℤ) → FitsSigned w64 z → nat_abs (to_z w64 (of_z w64 z)) ≡ nat_abs z
place_is z f = ap nat_abs (to_z-of_z w64 z f)

pub natural_is : (z : ℤ) → FitsSigned w64 z → pos 0 ≤ℤ z → z ≡ pos (nat_abs (to_z w64 (of_z w64 z)))
natural_is z f h = abs_is z h ∙ ap pos (sym (place_is z f))
  where
    abs_is : (z : ℤ) → pos 0 ≤ℤ z → z ≡ pos (nat_abs z)
    abs_is z h = omega (arith, ints)

-- how far a place is behind the first one, and one less
pub offset_fits : (first p at count : ℕ) → at ≤ first + p + 1 → p < count → count < 2 ^ 32 → FitsSigned w64 (pos (at - first))
offset_fits first p at count h k l =
    let small : at - first < 2 ^ 32 = omega arith in
    natural_fits (at - first) small
  where
    natural_fits : (n : ℕ) → n < 2 ^ 32 → FitsSigned w64 (pos n)
    natural_fits n h = omega (arith, ints)

pub offset_is : (first p at count : ℕ) → at ≤ first + p + 1 → p < count → count < 2 ^ 32 → to_z w64 (at - first) ≡ pos (at - first)
offset_is first p at count h k l = to_z_pos w64 (at - first) (omega arith)

pub less_one_fits : (first p at count : ℕ) → at ≤ first + p + 1 → p < count → count < 2 ^ 32 → FitsSigned w64 (to_z w64 (at - first) -ℤ pos 1)
less_one_fits first p at count h k l = subst (λ z. FitsSigned w64 (z -ℤ pos 1)) (sym (offset_is first p at count h k l)) (less (at - first) (omega arith))
  where
    less : (n : ℕ) → n < 2 ^ 33 → FitsSigned w64 (pos n -ℤ pos 1)
    less n h = omega (arith, ints)

pub less_one_is : (first p at count : ℕ) → at ≤ first + p + 1 → p < count → count < 2 ^ 32 → to_z w64 (of_z w64 (to_z w64 (at - first) -ℤ pos 1)) ≡ pos (at - first) -ℤ pos 1
less_one_is first p at count h k l =
    to_z-of_z w64 (to_z w64 (at - first) -ℤ pos 1) (less_one_fits first p at count h k l) ∙ ap (λ z. z -ℤ pos 1) (offset_is first p at count h k l)

pub some_of : (r : Option ℕ) (P : Type 0) (v w : ℕ) → SomeIff r P v → r ≡ Some w → w ≡ v
some_of None P v w h e = absurd cc
some_of (Some x) P v w h e = let k = h.1 in cc

-- ---- from the first to the last place that isn't missed

module _ (first count : ℕ) (w old : Span) (bounds : List (Option Span)) (below : HasElementsBelow (length bounds) first count) (low high : ℕ) (lowest : (n : ℕ) → IsInSpan (pos n) old → n < count → (low ≤ n) × (n ≤ high)) (from end : ℕ) (early : (v : ℕ) → first + low ≤ v → v < from → Misses (bound_of bounds v) w) (late : (v : ℕ) → end ≤ v → v < first + high + 1 → Misses (bound_of bounds v) w) where
  kept_at : (i : ℤ) (values : List (Option ℤ)) → AreWithin bounds values → IsInSpan i old → (f : IsFound first count w i values) → (from ≤ first + f.place) × (first + f.place < end)
  kept_at i values within at f =
      let n = f.place in
      let range = lowest n (subst (λ z. IsInSpan z old) f.is at) f.small in
      let a = range.0 in let b = range.1 in
      let l : from ≤ first + n = ⊎_elim (λ under. absurd (not_missed first count w i values bounds below within f (early (first + n) (omega (arith, a)) under))) (λ k. k) (cases_lt (first + n) from) in
      let h : first + n < end = ⊎_elim (λ k. k) (λ over. absurd (not_missed first count w i values bounds below within f (late (first + n) over (omega (arith, b))))) (cases_lt (first + n) end) in
      (l, h)

  pub places_kept : (new : Span) → new.low ≡ pos (from - first) → new.high ≡ pos (end - first) -ℤ pos 1 → KeepsPlaces first count w old bounds new
  places_kept new e e' values within i at lies =
      let f = found first count w i values lies in
      let range = kept_at i values within at f in
      let a = range.0 in let b = range.1 in let is = f.is in
      (omega (arith, ints, e, is, a), omega (arith, ints, e', is, b))

pub no_places : (first count : ℕ) (w old new : Span) (bounds : List (Option Span)) → ((n : ℕ) → IsInSpan (pos n) old → n < count → ⊥) → KeepsPlaces first count w old bounds new
no_places first count w old new bounds none values within i at lies =
    let f = found first count w i values lies in
    absurd (none f.place (subst (λ z. IsInSpan z old) f.is at) f.small)

-- ---- the index

element_there : (first count : ℕ) (w : Span) (values : List (Option ℤ)) (a : Option ℤ) → IsIn w (given (option_and_then (element_value values first count) a)) → (i : ℤ) × (a ≡ Some i) × ElementLiesIn first count w i values
element_there first count w values None h = absurd h
element_there first count w values (Some i) h = (i, refl, h)

in_bound : (s : Span) (a : Option ℤ) (i : ℤ) → a ≡ Some i → Holds (Some s) a → IsInSpan i s
in_bound s a i e h = subst (Holds (Some s)) e h

pub index_gives : (first count : ℕ) (e : Expression) (w s places : Span) (bounds : List (Option Span)) → HoldsValues (Some s) e bounds → KeepsPlaces first count w s bounds places → GivesIndex first count e w places bounds
index_gives first count e w s places bounds sound keeps values within lies =
    let it = element_there first count w values (value e values) lies in
    subst (IsIn places) (sym it.1) (keeps values within it.0 (in_bound s (value e values) it.0 it.1 (sound values within)) it.2)

one_lies : (first count : ℕ) (e : Expression) (w places : Span) (values : List (Option ℤ)) → GivesIn (Element first count e) w values → GivesIn e places values → OneLiesIn first count places w values
one_lies first count e w places values lies at =
    let it = element_there first count w values (value e values) lies in
    (it.0, subst (IsIn places) it.1 at, it.2)

pub element_step : (first count : ℕ) (e : Expression) (w places : Span) (a b c : List (Option Span)) (t u v : List Former) (one two : Result Bool NoMemory) → GivesIndex first count e w places a → IsStep (GivesIn e places) a b t u one → IsStep (OneLiesIn first count places w) b c u v two → IsStep (GivesIn (Element first count e) w) a c t v two
element_step first count e w places a b c t u v one two gives h k =
    step_from (GivesIn (Element first count e) w) (λ values. GivesIn (Element first count e) w values × GivesIn e places values) a c t v two
    (step_then (λ values. GivesIn (Element first count e) w values × GivesIn e places values) (OneLiesIn first count places w) a b c t u v one two
    (step_from (λ values. GivesIn (Element first count e) w values × GivesIn e places values) (GivesIn e places) a b t u one h (λ values both within. both.1))
    k (λ values both within. one_lies first count e w places values both.0 both.1))
    (λ values lies within. (lies, gives values within lies))

pub index_step : (first count : ℕ) (e : Expression) (w places : Span) (a b : List (Option Span)) (t u : List Former) (r : Result Bool NoMemory) → GivesIndex first count e w places a → IsStep (GivesIn e places) a b t u r → IsStep (GivesIn (Element first count e) w) a b t u r
index_step first count e w places a b t u r gives h =
    step_from (GivesIn (Element first count e) w) (GivesIn e places) a b t u r h (λ values lies within. gives values within lies)

-- ---- the element at the only index

at_only : (places : Span) (i : ℤ) (n m : ℕ) → i ≡ pos n → IsInSpan i places → places.high ≤ℤ places.low → places.low ≡ pos m → n ≡ m
at_only places i n m e at order is = omega (arith, ints, e, at.0, at.1, order, is)

pub only_lies : (first count m variable : ℕ) (w places : Span) (values : List (Option ℤ)) → places.high ≤ℤ places.low → places.low ≡ pos m → variable ≡ first + m → OneLiesIn first count places w values → LiesIn variable w values
only_lies first count m variable w places values order is e one =
    let f = found first count w one.0 values one.2 in
    let n = at_only places one.0 f.place m f.is one.1 order is in
    subst (λ k. IsIn w (variable_value values k)) (ap (λ k. first + k) n ∙ sym e) f.lies
