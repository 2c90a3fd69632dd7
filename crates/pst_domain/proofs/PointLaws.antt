-- Operations that give the value itself at two points follow the operation on values.
use Rattle.std.proofs.Common.{◌≡◌, ℤ, Bool, true, false, cond, ◌&&◌, Option, Some, None, option_and_then, arith, refl, sym, ap₂, subst, ◌∙◌}
use Rattle.std.proofs.lemmas.Int.{ints, clamps}
use Rattle.std.proofs.lemmas.Bool.{and_parts}
use Rattle.pst_expr.specs.declared.ranges.Span.{Span}
use Rattle.pst_expr.specs.Spans.{IsInSpan}
use Rattle.pst_domain.specs.Bounds.{Holds, IsInside}
use Rattle.pst_domain.specs.Cut.{point, is_point, at_points}
use Rattle.pst_domain.proofs.Decisions.{by_equality, same_number}
use Rattle.pst_domain.proofs.CutLaws.{IsSane, Sane, InRange, by_order, points_hold, points_sane, inside_self, cut_cases}
use Rattle.pst_domain.proofs.Lawful.{IsLawful}
use Rattle.pst_domain.proofs.ArithmeticLaws.{low_in}

-- spans by their ends
pub same_span : (s t : Span) → s.low ≡ t.low → s.high ≡ t.high → s ≡ t
same_span s t e f = ap₂ (λ a b. record { low = a; high = b }) e f

-- the only number of a point
pub only_number : (s : Span) (x : ℤ) → is_point s ≡ true → IsInSpan x s → x ≡ s.low
only_number s x e h = let f = by_equality s.low s.high e in same_number x s.low (omega (arith, ints, f, h.1)) h.0

-- a span inside a point that isn't reversed is that point
pub inside_point : (s s' : Span) → is_point s ≡ true → IsSane s' → IsInside (Some s') (Some s) → s' ≡ s
inside_point s s' e p h =
    let f = by_equality s.low s.high e in
    same_span s' s
    (same_number s'.low s.low (omega (arith, ints, f, h.1, p.upright)) h.0)
    (same_number s'.high s.high h.1 (omega (arith, ints, f, h.0, p.upright)))

-- the point of a value lies inside a span that holds it, if it is a value
pub point_within : (v : Option ℤ) (r : Option Span) → (InRange v → Holds r v) → IsInside (option_and_then point v) r
point_within None r h = tt
point_within (Some v) None h =
    cut_cases (λ b. IsInside b None) v v
    (λ t. absurd (h (by_order v (omega (arith, ints, clamps)) (omega (arith, ints, clamps)))))
    (λ t. tt)
point_within (Some v) (Some s) h =
    cut_cases (λ b. IsInside b (Some s)) v v
    (λ t. let k = h (by_order v (omega (arith, ints, clamps)) (omega (arith, ints, clamps))) in (omega (arith, ints, clamps, k.0, k.1), omega (arith, ints, clamps, k.0, k.1)))
    (λ t. tt)

-- ---- the value itself at two points, else another span

abbrev pub points_or : (ℤ → ℤ → Option ℤ) → (Span → Span → Option Span) → Span → Span → Option Span
points_or f G s t = cond (is_point s && is_point t) (at_points f s t) (G s t)

module _ (f : ℤ → ℤ → Option ℤ) (G : Span → Span → Option Span) (s t : Span) where
  points_cases : (P : Option Span → Type 0) → (is_point s ≡ true → is_point t ≡ true → P (at_points f s t)) → P (G s t) → P (points_or f G s t)
  points_cases P points others = go (is_point s && is_point t) refl
    where
      go : (b : Bool) → (is_point s && is_point t) ≡ b → P (cond b (at_points f s t) (G s t))
      go true e = let p = and_parts (is_point s) (is_point t) e in points p.0 p.1
      go false e = others

module _ (f : ℤ → ℤ → Option ℤ) (G : Span → Span → Option Span) (lawful : IsLawful f G) where
  points_or_holds : (s t : Span) (x y : ℤ) → IsSane s → IsSane t → IsInSpan x s → IsInSpan y t → InRange (f x y) → Holds (points_or f G s t) (f x y)
  points_or_holds s t x y p q h k i =
      points_cases f G s t (λ b. Holds b (f x y))
      (λ a b.
      let e = ap₂ f (only_number s x a h) (only_number t y b k) in
      subst (λ v. Holds (option_and_then point v) (f x y)) e (points_hold (f x y) i))
      (lawful.holds s t x y p q h k i)

  points_or_inside : (s t s' t' : Span) → IsSane s → IsSane t → IsSane s' → IsSane t' → IsInside (Some s') (Some s) → IsInside (Some t') (Some t) → IsInside (points_or f G s' t') (points_or f G s t)
  points_or_inside s t s' t' p q p' q' h k =
      points_cases f G s t (λ b. IsInside (points_or f G s' t') b)
      (λ a b.
      let same = ap₂ (points_or f G) (inside_point s s' a p' h) (inside_point t t' b q' k) in
      let here : points_or f G s t ≡ at_points f s t = rw (a, b) refl in
      subst (λ r. IsInside r (at_points f s t)) (sym (same ∙ here)) (inside_self (at_points f s t)))
      (points_cases f G s' t' (λ b. IsInside b (G s t))
      (λ a b. point_within (f s'.low t'.low) (G s t) (λ i. lawful.holds s t s'.low t'.low p q (low_in s s' p' h) (low_in t t' q' k) i))
      (lawful.inside s t s' t' p q p' q' h k))

  pub points_lawful : IsLawful f (points_or f G)
  points_lawful = record {
    holds = points_or_holds;
    inside = points_or_inside;
    sane = λ s t p q. points_cases f G s t Sane (λ a b. points_sane (f s.low t.low)) (lawful.sane s t p q);
  }
