-- What it is for an operation on spans to follow an operation on values.
use Rattle.std.proofs.Common.{◌≡◌, ℤ, Bool, true, false, cond, Option, Some, None, IsTrue, refl}
use Rattle.pst_num.specs.Range.{is_in_range, in_range}
use Rattle.pst_expr.specs.declared.ranges.Span.{Span}
use Rattle.pst_expr.specs.Spans.{IsInSpan}
use Rattle.pst_expr.specs.Value as value
use Rattle.pst_domain.specs.Bounds.{Holds, IsInside}
use Rattle.pst_domain.specs.Interval as interval
use Rattle.pst_domain.proofs.CutLaws.{IsSane, Sane, InRange}

-- a value of the operands gives a value in the span, narrower operands give a span inside, and spans are sane
pub record IsLawful (f : ℤ → ℤ → Option ℤ) (F : Span → Span → Option Span) : Type 0 where
  pub holds : (s t : Span) (x y : ℤ) → IsSane s → IsSane t → IsInSpan x s → IsInSpan y t → InRange (f x y) → Holds (F s t) (f x y)
  pub inside : (s t s' t' : Span) → IsSane s → IsSane t → IsSane s' → IsSane t' → IsInside (Some s') (Some s) → IsInside (Some t') (Some t) → IsInside (F s' t') (F s t)
  pub sane : (s t : Span) → IsSane s → IsSane t → Sane (F s t)

module _ (f : ℤ → ℤ → Option ℤ) (F : Span → Span → Option Span) (lawful : IsLawful f F) where
  pub both_holds : (r q : Option Span) (a b : Option ℤ) → Sane r → Sane q → Holds r a → Holds q b → InRange (value.both f a b) → Holds (interval.both F r q) (value.both f a b)
  both_holds r q None b m n h k i = tt
  both_holds r q (Some x) None m n h k i = tt
  both_holds None q (Some x) (Some y) m n h k i = absurd h
  both_holds (Some s) None (Some x) (Some y) m n h k i = absurd k
  both_holds (Some s) (Some t) (Some x) (Some y) m n h k i = lawful.holds s t x y m n h k i

  pub both_inside : (r q r' q' : Option Span) → Sane r → Sane q → Sane r' → Sane q' → IsInside r' r → IsInside q' q → IsInside (interval.both F r' q') (interval.both F r q)
  both_inside r q None q' m n m' n' h k = tt
  both_inside r q (Some s') None m n m' n' h k = tt
  both_inside None q (Some s') (Some t') m n m' n' h k = absurd h
  both_inside (Some s) None (Some s') (Some t') m n m' n' h k = absurd k
  both_inside (Some s) (Some t) (Some s') (Some t') m n m' n' h k = lawful.inside s t s' t' m n m' n' h k

  pub both_sane : (r q : Option Span) → Sane r → Sane q → Sane (interval.both F r q)
  both_sane None q m n = tt
  both_sane (Some s) None m n = tt
  both_sane (Some s) (Some t) m n = lawful.sane s t m n

-- a number that is no value gives none, which every span holds
pub held : (r : Option Span) (z : ℤ) → (IsTrue (is_in_range z) → Holds r (Some z)) → Holds r (in_range z)
held r z h = go (is_in_range z) refl
  where
    go : (b : Bool) → is_in_range z ≡ b → Holds r (cond b (Some z) None)
    go true e = h e
    go false e = tt
