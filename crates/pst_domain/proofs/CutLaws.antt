-- What a cut and a hull hold, and what lies inside them.
use Rattle.std.proofs.Common.{◌≡◌, ◌⊎◌, ⊎_elim, inl, inr, ℤ, ◌≤ℤ◌, ◌<ℤ◌, Bool, true, false, cond, ◌&&◌, int_le, List, [], ◌∷◌, Option, Some, None, option_and_then, fold, IfSome, IsTrue, arith, refl, ap₂}
use Rattle.std.specs.Int.{int_min, int_max}
use Rattle.std.proofs.lemmas.Int.{ints, clamps}
use Rattle.std.proofs.lemmas.Bool.{and_parts}
use Rattle.pst_num.specs.Range.{least, greatest, is_in_range}
use Rattle.pst_expr.specs.declared.ranges.Span.{Span}
use Rattle.pst_domain.specs.Bounds.{Holds, IsInside}
use Rattle.pst_domain.specs.Cut.{cut, cut_span, point, hull, whole}
pub use Rattle.pst_domain.specs.Laws.{IsSane}
use Rattle.pst_domain.proofs.Decisions.{by_le, by_not_le, le_test}

abbrev pub Sane : Option Span → Type 0
Sane r = IfSome r IsSane

abbrev pub InRange : Option ℤ → Type 0
InRange v = IfSome v (λ z. IsTrue (is_in_range z))

-- a number that is a value, by its order
pub in_order : (z : ℤ) → IsTrue (is_in_range z) → (least ≤ℤ z) × (z ≤ℤ greatest)
in_order z h = let p = and_parts (int_le least z) (int_le z greatest) h in (by_le least z p.0, by_le z greatest p.1)

pub by_order : (z : ℤ) → least ≤ℤ z → z ≤ℤ greatest → IsTrue (is_in_range z)
by_order z h k = ap₂ ◌&&◌ (le_test least z h) (le_test z greatest k)

-- a cut by its test
pub cut_cases : (P : Option Span → Type 0) (low high : ℤ) → (int_max low least ≤ℤ int_min high greatest → P (Some (record { low = int_max low least; high = int_min high greatest }))) → (int_min high greatest <ℤ int_max low least → P None) → P (cut low high)
cut_cases P low high found none = go (int_le (int_max low least) (int_min high greatest)) refl
  where
    go : (b : Bool) → int_le (int_max low least) (int_min high greatest) ≡ b → P (cond b (Some (record { low = int_max low least; high = int_min high greatest })) None)
    go true t = found (by_le _ _ t)
    go false t = none (by_not_le _ _ t)

pub cut_sane : (low high : ℤ) → Sane (cut low high)
cut_sane low high =
    cut_cases Sane low high
    (λ h. record { from_least = omega (arith, ints, clamps); upright = h; to_greatest = omega (arith, ints, clamps) })
    (λ h. tt)

pub cut_holds : (low high v : ℤ) → low ≤ℤ v → v ≤ℤ high → IsTrue (is_in_range v) → Holds (cut low high) (Some v)
cut_holds low high v h k r =
    let o = in_order v r in
    cut_cases (λ b. Holds b (Some v)) low high
    (λ t. (omega (arith, ints, clamps, o.0), omega (arith, ints, clamps, o.1)))
    (λ t. absurd (omega (arith, ints, clamps, o.0, o.1)))

pub cut_inside : (low high low' high' : ℤ) → low ≤ℤ low' → high' ≤ℤ high → IsInside (cut low' high') (cut low high)
cut_inside low high low' high' h k =
    cut_cases (λ b. IsInside b (cut low high)) low' high'
    (λ t.
    cut_cases (λ b. IsInside (Some (record { low = int_max low' least; high = int_min high' greatest })) b) low high
    (λ u. (omega (arith, ints, clamps), omega (arith, ints, clamps)))
    (λ u. absurd (omega (arith, ints, clamps))))
    (λ t. tt)

pub whole_holds : (v : ℤ) → IsTrue (is_in_range v) → Holds whole (Some v)
whole_holds v r = in_order v r

pub inside_whole : (s : Span) → IsSane s → IsInside (Some s) whole
inside_whole s h = (h.from_least, h.to_greatest)

pub whole_sane : Sane whole
whole_sane = record { from_least = omega (arith, ints); upright = omega (arith, ints); to_greatest = omega (arith, ints) }

-- ---- a point

pub point_holds : (v : ℤ) → IsTrue (is_in_range v) → Holds (point v) (Some v)
point_holds v r = cut_holds v v v (omega (arith, ints)) (omega (arith, ints)) r

-- a point lies inside a span that holds its number
pub point_inside : (v : ℤ) (r : Option Span) → Holds r (Some v) → IsInside (point v) r
point_inside v None h = absurd h
point_inside v (Some s) h =
    cut_cases (λ b. IsInside b (Some s)) v v
    (λ t. (omega (arith, ints, clamps, h.0, h.1), omega (arith, ints, clamps, h.0, h.1)))
    (λ t. tt)

pub points_hold : (v : Option ℤ) → InRange v → Holds (option_and_then point v) v
points_hold None r = tt
points_hold (Some v) r = point_holds v r

pub points_inside : (v : Option ℤ) (r : Option Span) → Holds r v → IsInside (option_and_then point v) r
points_inside None r h = tt
points_inside (Some v) r h = point_inside v r h

pub points_sane : (v : Option ℤ) → Sane (option_and_then point v)
points_sane None = tt
points_sane (Some v) = cut_sane v v

-- ---- bounds cut to the values

pub cut_span_sane : (r : Option Span) → Sane (cut_span r)
cut_span_sane None = tt
cut_span_sane (Some s) = cut_sane s.low s.high

pub cut_span_holds : (r : Option Span) (v : ℤ) → Holds r (Some v) → IsTrue (is_in_range v) → Holds (cut_span r) (Some v)
cut_span_holds None v h r = absurd h
cut_span_holds (Some s) v h r = cut_holds s.low s.high v h.0 h.1 r

pub cut_span_inside : (inner outer : Option Span) → IsInside inner outer → IsInside (cut_span inner) (cut_span outer)
cut_span_inside None outer h = tt
cut_span_inside (Some s) None h = absurd h
cut_span_inside (Some s) (Some t) h = cut_inside t.low t.high s.low s.high h.0 h.1

-- ---- inside

pub inside_self : (r : Option Span) → IsInside r r
inside_self None = tt
inside_self (Some s) = (omega (arith, ints), omega (arith, ints))

pub inside_trans : (a b c : Option Span) → IsInside a b → IsInside b c → IsInside a c
inside_trans None b c h k = tt
inside_trans (Some s) None c h k = absurd h
inside_trans (Some s) (Some t) None h k = absurd k
inside_trans (Some s) (Some t) (Some u) h k = (omega (arith, ints, h.0, k.0), omega (arith, ints, h.1, k.1))

pub inside_holds : (a b : Option Span) (v : Option ℤ) → IsInside a b → Holds a v → Holds b v
inside_holds a b None h k = tt
inside_holds None b (Some v) h k = absurd k
inside_holds (Some s) None (Some v) h k = absurd h
inside_holds (Some s) (Some t) (Some v) h k = (omega (arith, ints, h.0, k.0), omega (arith, ints, h.1, k.1))

-- ---- hulls

-- some number of a list is at most v, or at least v
abbrev pub SomeBelow : List ℤ → ℤ → Type 0
SomeBelow [] v = ⊥
SomeBelow (z ∷ zs) v = (z ≤ℤ v) ⊎ SomeBelow zs v

abbrev pub SomeAbove : List ℤ → ℤ → Type 0
SomeAbove [] v = ⊥
SomeAbove (z ∷ zs) v = (v ≤ℤ z) ⊎ SomeAbove zs v

-- a number is between numbers of a list
abbrev pub IsAmong : List ℤ → ℤ → Type 0
IsAmong zs v = SomeBelow zs v × SomeAbove zs v

-- all numbers of a list are between numbers of another
abbrev pub AreAmong : List ℤ → List ℤ → Type 0
AreAmong outer [] = Unit {0}
AreAmong outer (z ∷ zs) = IsAmong outer z × AreAmong outer zs

min_below : (a : ℤ) (zs : List ℤ) (v : ℤ) → (a ≤ℤ v) ⊎ SomeBelow zs v → fold int_min a zs ≤ℤ v
min_below a [] v h = ⊎_elim (λ x. x) (λ x. absurd x) h
min_below a (z ∷ zs) v h =
    min_below (int_min a z) zs v
    (⊎_elim (λ x. inl (omega (arith, ints, clamps))) (⊎_elim (λ x. inl (omega (arith, ints, clamps))) inr) h)

max_above : (a : ℤ) (zs : List ℤ) (v : ℤ) → (v ≤ℤ a) ⊎ SomeAbove zs v → v ≤ℤ fold int_max a zs
max_above a [] v h = ⊎_elim (λ x. x) (λ x. absurd x) h
max_above a (z ∷ zs) v h =
    max_above (int_max a z) zs v
    (⊎_elim (λ x. inl (omega (arith, ints, clamps))) (⊎_elim (λ x. inl (omega (arith, ints, clamps))) inr) h)

pub hull_holds : (zs : List ℤ) (v : ℤ) → IsAmong zs v → IsTrue (is_in_range v) → Holds (hull zs) (Some v)
hull_holds [] v h r = absurd h.0
hull_holds (z ∷ zs) v h r = cut_holds (fold int_min z zs) (fold int_max z zs) v (min_below z zs v h.0) (max_above z zs v h.1) r

min_within : (w : ℤ) (outer : List ℤ) (a : ℤ) (zs : List ℤ) → ((v : ℤ) → IsAmong outer v → w ≤ℤ v) → w ≤ℤ a → AreAmong outer zs → w ≤ℤ fold int_min a zs
min_within w outer a [] f h k = h
min_within w outer a (z ∷ zs) f h k = let l = f z k.0 in min_within w outer (int_min a z) zs f (omega (arith, ints, clamps)) k.1

max_within : (w : ℤ) (outer : List ℤ) (a : ℤ) (zs : List ℤ) → ((v : ℤ) → IsAmong outer v → v ≤ℤ w) → a ≤ℤ w → AreAmong outer zs → fold int_max a zs ≤ℤ w
max_within w outer a [] f h k = h
max_within w outer a (z ∷ zs) f h k = let l = f z k.0 in max_within w outer (int_max a z) zs f (omega (arith, ints, clamps)) k.1

pub hull_inside : (outer inner : List ℤ) → AreAmong outer inner → IsInside (hull inner) (hull outer)
hull_inside outer [] h = tt
hull_inside [] (z ∷ zs) h = absurd h.0.0
hull_inside (y ∷ ys) (z ∷ zs) h =
    let low = λ (v : ℤ) (k : IsAmong (y ∷ ys) v). min_below y ys v k.0 in
    let high = λ (v : ℤ) (k : IsAmong (y ∷ ys) v). max_above y ys v k.1 in
    cut_inside (fold int_min y ys) (fold int_max y ys) (fold int_min z zs) (fold int_max z zs)
    (min_within (fold int_min y ys) (y ∷ ys) z zs low (low z h.0) h.1)
    (max_within (fold int_max y ys) (y ∷ ys) z zs high (high z h.0) h.1)

pub hull_sane : (zs : List ℤ) → Sane (hull zs)
hull_sane [] = tt
hull_sane (z ∷ zs) = cut_sane (fold int_min z zs) (fold int_max z zs)
