-- Sums, differences, products and quotients of spans follow those of values.
use Rattle.std.proofs.Common.{◌≡◌, ◌⊎◌, ⊎_elim, inl, inr, zero, suc, ℤ, pos, negsuc, ◌+ℤ◌, ◌-ℤ◌, ◌*ℤ◌, ◌<ℤ◌, int_div, int_lt, Bool, true, false, cond, List, [], ◌∷◌, ◌++◌, Option, Some, None, flat_map, arith, refl, sym, subst}
use Rattle.std.specs.Int.{int_min, int_max}
use Rattle.std.specs.Ordering.{int_eq}
use Rattle.std.proofs.lemmas.Int.{ints, clamps}
use Rattle.std.proofs.lemmas.List.Concat.{flat_map-append}
use Rattle.pst_num.specs.Range.{in_range}
use Rattle.pst_num.specs.Arithmetic.{sum_of, difference_of, product_of, quotient_of}
use Rattle.pst_expr.specs.declared.ranges.Span.{Span}
use Rattle.pst_expr.specs.Spans.{IsInSpan}
use Rattle.pst_domain.specs.Bounds.{Holds, IsInside}
use Rattle.pst_domain.specs.Arithmetic.{sum_span, difference_span, product_span, quotient_span, negative_part, positive_part, end_quotients}
use Rattle.pst_domain.proofs.CutLaws.{IsSane, cut_sane, cut_holds, cut_inside, hull_sane, hull_holds, hull_inside, IsAmong, AreAmong, SomeBelow, SomeAbove}
use Rattle.pst_domain.proofs.Corners.{corners, product_among, quotient_among}
use Rattle.pst_domain.proofs.Lawful.{IsLawful, held}

pub sum_lawful : IsLawful sum_of sum_span
sum_lawful = record {
  holds = λ s t x y p q h k i.
      held (sum_span s t) (x +ℤ y) (λ r. cut_holds (s.low +ℤ t.low) (s.high +ℤ t.high) (x +ℤ y) (omega (arith, ints, h.0, k.0)) (omega (arith, ints, h.1, k.1)) r);
  inside = λ s t s' t' p q p' q' h k.
      cut_inside (s.low +ℤ t.low) (s.high +ℤ t.high) (s'.low +ℤ t'.low) (s'.high +ℤ t'.high) (omega (arith, ints, h.0, k.0)) (omega (arith, ints, h.1, k.1));
  sane = λ s t p q. cut_sane (s.low +ℤ t.low) (s.high +ℤ t.high);
}

pub difference_lawful : IsLawful difference_of difference_span
difference_lawful = record {
  holds = λ s t x y p q h k i.
      held (difference_span s t) (x -ℤ y) (λ r. cut_holds (s.low -ℤ t.high) (s.high -ℤ t.low) (x -ℤ y) (omega (arith, ints, h.0, k.1)) (omega (arith, ints, h.1, k.0)) r);
  inside = λ s t s' t' p q p' q' h k.
      cut_inside (s.low -ℤ t.high) (s.high -ℤ t.low) (s'.low -ℤ t'.high) (s'.high -ℤ t'.low) (omega (arith, ints, h.0, k.1)) (omega (arith, ints, h.1, k.0));
  sane = λ s t p q. cut_sane (s.low -ℤ t.high) (s.high -ℤ t.low);
}

module _ (s t : Span) where
  product_at : (x y : ℤ) → IsInSpan x s → IsInSpan y t → IsAmong (corners ◌*ℤ◌ s.low s.high t.low t.high) (x *ℤ y)
  product_at x y h k = product_among s.low s.high t.low t.high x y h.0 h.1 k.0 k.1

-- the ends of a span lie in it and in each span round it
pub low_in : (s s' : Span) → IsSane s' → IsInside (Some s') (Some s) → IsInSpan s'.low s
low_in s s' p h = (h.0, omega (arith, ints, h.1, p.upright))

pub high_in : (s s' : Span) → IsSane s' → IsInside (Some s') (Some s) → IsInSpan s'.high s
high_in s s' p h = (omega (arith, ints, h.0, p.upright), h.1)

pub product_lawful : IsLawful product_of product_span
product_lawful = record {
  holds = λ s t x y p q h k i.
      held (product_span s t) (x *ℤ y) (λ r. hull_holds (corners ◌*ℤ◌ s.low s.high t.low t.high) (x *ℤ y) (product_at s t x y h k) r);
  inside = λ s t s' t' p q p' q' h k.
      let sl = low_in s s' p' h in
      let sh = high_in s s' p' h in
      let tl = low_in t t' q' k in
      let th = high_in t t' q' k in
      hull_inside (corners ◌*ℤ◌ s.low s.high t.low t.high) (corners ◌*ℤ◌ s'.low s'.high t'.low t'.high)
      (product_at s t s'.low t'.low sl tl, (product_at s t s'.low t'.high sl th, (product_at s t s'.high t'.low sh tl, (product_at s t s'.high t'.high sh th, tt))));
  sane = λ s t p q. hull_sane (corners ◌*ℤ◌ s.low s.high t.low t.high);
}

-- ---- quotients

below_append_left : (xs ys : List ℤ) (v : ℤ) → SomeBelow xs v → SomeBelow (xs ++ ys) v
below_append_left [] ys v h = absurd h
below_append_left (x ∷ xs) ys v h = ⊎_elim inl (λ k. inr (below_append_left xs ys v k)) h

below_append_right : (xs ys : List ℤ) (v : ℤ) → SomeBelow ys v → SomeBelow (xs ++ ys) v
below_append_right [] ys v h = h
below_append_right (x ∷ xs) ys v h = inr (below_append_right xs ys v h)

above_append_left : (xs ys : List ℤ) (v : ℤ) → SomeAbove xs v → SomeAbove (xs ++ ys) v
above_append_left [] ys v h = absurd h
above_append_left (x ∷ xs) ys v h = ⊎_elim inl (λ k. inr (above_append_left xs ys v k)) h

above_append_right : (xs ys : List ℤ) (v : ℤ) → SomeAbove ys v → SomeAbove (xs ++ ys) v
above_append_right [] ys v h = h
above_append_right (x ∷ xs) ys v h = inr (above_append_right xs ys v h)

among_left : (xs ys : List ℤ) (v : ℤ) → IsAmong xs v → IsAmong (xs ++ ys) v
among_left xs ys v h = (below_append_left xs ys v h.0, above_append_left xs ys v h.1)

among_right : (xs ys : List ℤ) (v : ℤ) → IsAmong ys v → IsAmong (xs ++ ys) v
among_right xs ys v h = (below_append_right xs ys v h.0, above_append_right xs ys v h.1)

are_among_append : (outer xs ys : List ℤ) → AreAmong outer xs → AreAmong outer ys → AreAmong outer (xs ++ ys)
are_among_append outer [] ys h k = k
are_among_append outer (x ∷ xs) ys h k = (h.0, are_among_append outer xs ys h.1 k)

-- all quotients of ends by the parts of a divisor
abbrev all_quotients : Span → Span → List ℤ
all_quotients s t = flat_map (end_quotients s) (negative_part t ++ positive_part t)

in_parts : (s t : Span) → all_quotients s t ≡ flat_map (end_quotients s) (negative_part t) ++ flat_map (end_quotients s) (positive_part t)
in_parts s t = flat_map-append (end_quotients s) (negative_part t) (positive_part t)

abbrev negative_of : Span → Span
negative_of t = record { low = t.low; high = int_min t.high (negsuc 0) }

abbrev positive_of : Span → Span
positive_of t = record { low = int_max t.low (pos 1); high = t.high }

negative_quotients : (s t : Span) (v : ℤ) → t.low <ℤ pos 0 → IsAmong (end_quotients s (negative_of t)) v → IsAmong (all_quotients s t) v
negative_quotients s t v h k =
    let test : int_lt t.low (pos 0) ≡ true = grind (arith, ints) in
    let own : IsAmong (flat_map (end_quotients s) (negative_part t)) v = rw test (among_left (end_quotients s (negative_of t)) [] v k) in
    subst (λ (zs : List ℤ). IsAmong zs v) (sym (in_parts s t)) (among_left (flat_map (end_quotients s) (negative_part t)) (flat_map (end_quotients s) (positive_part t)) v own)

positive_quotients : (s t : Span) (v : ℤ) → pos 0 <ℤ t.high → IsAmong (end_quotients s (positive_of t)) v → IsAmong (all_quotients s t) v
positive_quotients s t v h k =
    let test : int_lt (pos 0) t.high ≡ true = grind (arith, ints) in
    let own : IsAmong (flat_map (end_quotients s) (positive_part t)) v = rw test (among_left (end_quotients s (positive_of t)) [] v k) in
    subst (λ (zs : List ℤ). IsAmong zs v) (sym (in_parts s t)) (among_right (flat_map (end_quotients s) (negative_part t)) (flat_map (end_quotients s) (positive_part t)) v own)

-- a quotient of numbers of two spans lies between quotients of ends
quotient_at : (s t : Span) (x y : ℤ) → IsInSpan x s → IsInSpan y t → (pos 0 <ℤ y) ⊎ (y <ℤ pos 0) → IsAmong (all_quotients s t) (int_div x y)
quotient_at s t x y h k (inl c) =
    positive_quotients s t (int_div x y) (omega (arith, ints, k.1))
    (quotient_among s.low s.high (int_max t.low (pos 1)) t.high x y (inl (omega (arith, ints, clamps))) h.0 h.1 (omega (arith, ints, clamps, k.0)) k.1)
quotient_at s t x y h k (inr c) =
    negative_quotients s t (int_div x y) (omega (arith, ints, k.0))
    (quotient_among s.low s.high t.low (int_min t.high (negsuc 0)) x y (inr (omega (arith, ints, clamps))) h.0 h.1 k.0 (omega (arith, ints, clamps, k.1)))

-- the quotients of ends of inner spans
inner_quotients : (s t s' part : Span) → IsSane s' → IsInside (Some s') (Some s) → IsInSpan part.low t → IsInSpan part.high t → (pos 0 <ℤ part.low) ⊎ (part.low <ℤ pos 0) → (pos 0 <ℤ part.high) ⊎ (part.high <ℤ pos 0) → AreAmong (all_quotients s t) (end_quotients s' part)
inner_quotients s t s' part p h tl th cl ch =
    let sl = low_in s s' p h in
    let sh = high_in s s' p h in
    (quotient_at s t s'.low part.low sl tl cl, (quotient_at s t s'.low part.high sl th ch, (quotient_at s t s'.high part.low sh tl cl, (quotient_at s t s'.high part.high sh th ch, tt))))

-- one part, if a test says that there is one
one_part : (outer : List ℤ) (s part : Span) (b : Bool) → (b ≡ true → AreAmong outer (end_quotients s part)) → AreAmong outer (flat_map (end_quotients s) (cond b (part ∷ []) []))
one_part outer s part true h = are_among_append outer (end_quotients s part) [] (h refl) tt
one_part outer s part false h = tt

inner_all : (s t s' t' : Span) → IsSane s' → IsSane t' → IsInside (Some s') (Some s) → IsInside (Some t') (Some t) → AreAmong (all_quotients s t) (all_quotients s' t')
inner_all s t s' t' p q h k =
    subst (λ (zs : List ℤ). AreAmong (all_quotients s t) zs) (sym (in_parts s' t'))
    (are_among_append (all_quotients s t) (flat_map (end_quotients s') (negative_part t')) (flat_map (end_quotients s') (positive_part t'))
    (one_part (all_quotients s t) s' (negative_of t') (int_lt t'.low (pos 0)) (λ e.
    let below : t'.low <ℤ pos 0 = omega (arith, ints, e) in
    inner_quotients s t s' (negative_of t') p h (low_in t t' q k) (omega (arith, ints, clamps, k.0, q.upright), omega (arith, ints, clamps, k.1)) (inr below) (inr (omega (arith, ints, clamps)))))
    (one_part (all_quotients s t) s' (positive_of t') (int_lt (pos 0) t'.high) (λ e.
    let above : pos 0 <ℤ t'.high = omega (arith, ints, e) in
    inner_quotients s t s' (positive_of t') p h (omega (arith, ints, clamps, k.0), omega (arith, ints, clamps, k.1, q.upright)) (high_in t t' q k) (inl (omega (arith, ints, clamps))) (inl above))))

-- a number other than 0 is on one side of it
side_of : (y : ℤ) → int_eq y (pos 0) ≡ false → (pos 0 <ℤ y) ⊎ (y <ℤ pos 0)
side_of (pos zero) e = absurd cc
side_of (pos (suc n)) e = inl (omega (arith, ints))
side_of (negsuc n) e = inr (omega (arith, ints))

-- an operation that gives nothing where its second operand is 0
pub unless_zero : (r : Option Span) (y : ℤ) (v : Option ℤ) → ((pos 0 <ℤ y) ⊎ (y <ℤ pos 0) → Holds r v) → Holds r (cond (int_eq y (pos 0)) None v)
unless_zero r y v h = go (int_eq y (pos 0)) refl
  where
    go : (b : Bool) → int_eq y (pos 0) ≡ b → Holds r (cond b None v)
    go true e = tt
    go false e = h (side_of y e)

pub quotient_lawful : IsLawful quotient_of quotient_span
quotient_lawful = record {
  holds = λ s t x y p q h k i.
      unless_zero (quotient_span s t) y (in_range (int_div x y)) (λ c. held (quotient_span s t) (int_div x y) (λ r. hull_holds (all_quotients s t) (int_div x y) (quotient_at s t x y h k c) r));
  inside = λ s t s' t' p q p' q' h k. hull_inside (all_quotients s t) (all_quotients s' t') (inner_all s t s' t' p' q' h k);
  sane = λ s t p q. hull_sane (all_quotients s t);
}
