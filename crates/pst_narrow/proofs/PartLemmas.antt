-- What the spans of two operands tell.
use Rattle.std.proofs.Common.{◌≡◌, ℤ, pos, ◌+ℤ◌, ◌≤ℤ◌, List, Bool, true, false, Option, Some, None, cond, int_le, int_lt, refl, subst, arith}
use Rattle.std.specs.Prelude.{⊤}
use Rattle.std.specs.Int.{int_min, int_max}
use Rattle.std.proofs.lemmas.Int.{ints, clamps}
use Rattle.pst_expr.specs.declared.ranges.Span.{Span}
use Rattle.pst_expr.specs.Spans.{IsInSpan}
use Rattle.pst_expr.specs.Tree.{Expression, Constant, Variable, Unary, Binary, Element}
use Rattle.std.specs.Ordering.{int_eq}
use Rattle.std.proofs.lemmas.Bool.Decides.{Decides-int_eq}
use Rattle.pst_expr.specs.Value.{value, number_of, compared}
use Rattle.pst_expr.specs.declared.tree.BinaryOp.TheVariants.{Less, LessOrEqual, Greater, GreaterOrEqual, Equal}
use Rattle.pst_narrow.specs.Solutions.{IsMet, IsTruth}
use Rattle.pst_num.specs.Range.{least, greatest}
use Rattle.pst_domain.specs.Bounds.{bound_of, IsInside, Holds}
use Rattle.pst_domain.specs.Cut.{cut, cut_span}
use Rattle.pst_domain.specs.Interval.{interval}
use Rattle.pst_domain.specs.Laws.{HoldsValues}
use Rattle.pst_narrow.specs.declared.parts.Parts.{Parts}
use Rattle.pst_narrow.specs.Narrowing.{HaveNone, BothAre, IsIn, AreAhead, AreEqual}
use Rattle.pst_narrow.specs.Parts.{AreSpansOf, AreBoth, IsCutAhead}
use Rattle.pst_narrow.specs.Cuts.{IsSide, side, IsCut, IsCutEqual}
use Rattle.pst_narrow.proofs.NarrowLemmas.{inside_then}

-- two values that compare are there
pub both_there : (R : ℤ → ℤ → Type 0) (p q : Option ℤ) → BothAre R p q → BothAre (λ x y. ⊤) p q
both_there R None q h = absurd h
both_there R (Some x) None h = absurd h
both_there R (Some x) (Some y) h = tt

pub no_spans : (R : ℤ → ℤ → Type 0) (p q : Expression) (a : List (Option Span)) → AreSpansOf p q a None → HaveNone (λ values. BothAre R (value p values) (value q values)) a
no_spans R p q a none values within holds = none values within (both_there R (value p values) (value q values) holds)

no_left : (p q : Option ℤ) → Holds None p → BothAre (λ x y. ⊤) p q → ⊥
no_left None q h k = k
no_left (Some x) q h k = h

no_right : (p q : Option ℤ) → Holds None q → BothAre (λ x y. ⊤) p q → ⊥
no_right None q h k = k
no_right (Some x) None h k = k
no_right (Some x) (Some y) h k = h

pub without_left : (p q : Expression) (a : List (Option Span)) → HoldsValues None p a → AreSpansOf p q a None
without_left p q a sound values within holds = no_left (value p values) (value q values) (sound values within) holds

pub without_right : (p q : Expression) (a : List (Option Span)) → HoldsValues None q a → AreSpansOf p q a None
without_right p q a sound values within holds = no_right (value p values) (value q values) (sound values within) holds

-- a relation of two values within their spans, told of the values of two expressions
pub along_spans : (R : ℤ → ℤ → Type 0) (s t : Span) (parts : Parts) (p q : Option ℤ) → ((x y : ℤ) → IsInSpan x s → IsInSpan y t → R x y → IsInSpan x parts.left × IsInSpan y parts.right) → Holds (Some s) p → Holds (Some t) q → BothAre R p q → IsIn parts.left p × IsIn parts.right q
along_spans R s t parts None q f h k r = absurd r
along_spans R s t parts (Some x) None f h k r = absurd r
along_spans R s t parts (Some x) (Some y) f h k r = f x y h k r

pub none_along : (R : ℤ → ℤ → Type 0) (s t : Span) (p q : Option ℤ) → ((x y : ℤ) → IsInSpan x s → IsInSpan y t → R x y → ⊥) → Holds (Some s) p → Holds (Some t) q → BothAre R p q → ⊥
none_along R s t None q f h k r = r
none_along R s t (Some x) None f h k r = r
none_along R s t (Some x) (Some y) f h k r = f x y h k r

pub in_parts_ahead : (gap : ℤ) (s t : Span) (parts : Parts) → pos 0 ≤ℤ gap → IsCutAhead gap s t parts → (x y : ℤ) → IsInSpan x s → IsInSpan y t → (x +ℤ gap) ≤ℤ y → IsInSpan x parts.left × IsInSpan y parts.right
in_parts_ahead gap s t parts some h x y left right order =
    let a = h.left_low in let b = h.left_high in let c = h.right_low in let d = h.right_high in
    ((omega (arith, ints, a, left.0), omega (arith, ints, b, right.1, order)), (omega (arith, ints, c, left.0, order), omega (arith, ints, d, right.1)))

-- ---- the cuts of sides

cut_inside : (low high : ℤ) → IsInside (cut low high) (Some (record { low = low; high = high }))
cut_inside low high = go (int_le (int_max low least) (int_min high greatest))
  where
    go : (b : Bool) → IsInside (cond b (Some (record { low = int_max low least; high = int_min high greatest })) None) (Some (record { low = low; high = high }))
    go true = (omega (arith, ints, clamps), omega (arith, ints, clamps))
    go false = tt

cut_span_inside : (b : Option Span) → IsInside (cut_span b) b
cut_span_inside None = tt
cut_span_inside (Some s) = cut_inside s.low s.high

-- the span of a side lies inside its bounds
side_span : (p : Expression) (a : List (Option Span)) (s : Span) → IsSide p → interval p a ≡ Some s → IsInside (Some s) (side p a)
side_span (Constant n) a s is e = subst (λ r. IsInside r (side (Constant n) a)) e (cut_inside n n)
side_span (Variable i) a s is e = subst (λ r. IsInside r (bound_of a i)) e (cut_span_inside (bound_of a i))
side_span (Unary op p) a s is e = absurd is
side_span (Binary op p q) a s is e = absurd is
side_span (Element i k p) a s is e = absurd is

inside_low : (s t : Span) → IsInside (Some s) (Some t) → t.low ≤ℤ s.low
inside_low s t h = h.0

inside_high : (s t : Span) → IsInside (Some s) (Some t) → s.high ≤ℤ t.high
inside_high s t h = h.1

pub ahead_cut : (gap : ℤ) (p q : Expression) (a b : List (Option Span)) (spans parts : Parts) → AreBoth p q a spans → IsCutAhead gap spans.left spans.right parts → (IsSide p → IsInside (side p b) (Some parts.left)) → (IsSide q → IsInside (side q b) (Some parts.right)) → IsSide p → IsSide q → IsCut gap p q a b
ahead_cut gap p q a b spans parts both cut left right is_p is_q =
    record {
      high = λ s t e f.
          let outer = inside_high spans.right t (subst (IsInside (Some spans.right)) f (side_span q a spans.right is_q both.right_is)) in
          let inner = inside_high s parts.left (subst (λ r. IsInside r (Some parts.left)) e (left is_p)) in
          let ends = cut.left_high in
          omega (arith, ints, outer, inner, ends);
      low = λ s t e f.
          let outer = inside_low spans.left s (subst (IsInside (Some spans.left)) e (side_span p a spans.left is_p both.left_is)) in
          let inner = inside_low t parts.right (subst (λ r. IsInside r (Some parts.right)) f (right is_q)) in
          let ends = cut.right_low in
          omega (arith, ints, outer, inner, ends);
    }

pub equal_cut : (p q : Expression) (a b : List (Option Span)) (spans : Parts) → AreBoth p q a spans → (IsSide p → IsInside (side p b) (Some spans.right)) → (IsSide q → IsInside (side q b) (Some spans.left)) → IsSide p → IsSide q → IsCutEqual p q a b
equal_cut p q a b spans both left right is_p is_q =
    record {
      left = inside_then (side p b) (Some spans.right) (side q a) (left is_p) (side_span q a spans.right is_q both.right_is);
      right = inside_then (side q b) (Some spans.left) (side p a) (right is_q) (side_span p a spans.left is_p both.left_is);
    }

-- ---- comparisons that hold

less_holds : (x y : ℤ) (b : Bool) → int_lt x y ≡ b → IsTruth (Some (number_of b)) → (x +ℤ pos 1) ≤ℤ y
less_holds x y true e h = omega (arith, ints, e)
less_holds x y false e h = absurd (h refl)

at_most_holds : (x y : ℤ) (b : Bool) → int_le x y ≡ b → IsTruth (Some (number_of b)) → (x +ℤ pos 0) ≤ℤ y
at_most_holds x y true e h = omega (arith, ints, e)
at_most_holds x y false e h = absurd (h refl)

equal_holds : (x y : ℤ) (b : Bool) → int_eq x y ≡ b → IsTruth (Some (number_of b)) → x ≡ y
equal_holds x y true e h = (Decides-int_eq x y).0 e
equal_holds x y false e h = absurd (h refl)

compared_holds : (test : ℤ → ℤ → Bool) (R : ℤ → ℤ → Type 0) → ((x y : ℤ) → IsTruth (Some (number_of (test x y))) → R x y) → (p q : Option ℤ) → IsTruth (compared test p q) → BothAre R p q
compared_holds test R f None q h = absurd h
compared_holds test R f (Some x) None h = absurd h
compared_holds test R f (Some x) (Some y) h = f x y h

turned : (R : ℤ → ℤ → Type 0) (p q : Option ℤ) → BothAre (λ x y. R y x) p q → BothAre R q p
turned R None None h = absurd h
turned R None (Some y) h = absurd h
turned R (Some x) None h = absurd h
turned R (Some x) (Some y) h = h

pub met_less : (p q : Expression) (values : List (Option ℤ)) → IsMet (Binary Less p q) values → AreAhead (pos 1) p q values
met_less p q values h = compared_holds int_lt (λ x y. (x +ℤ pos 1) ≤ℤ y) (λ x y. less_holds x y (int_lt x y) refl) (value p values) (value q values) h

pub met_at_most : (p q : Expression) (values : List (Option ℤ)) → IsMet (Binary LessOrEqual p q) values → AreAhead (pos 0) p q values
met_at_most p q values h = compared_holds int_le (λ x y. (x +ℤ pos 0) ≤ℤ y) (λ x y. at_most_holds x y (int_le x y) refl) (value p values) (value q values) h

pub met_greater : (p q : Expression) (values : List (Option ℤ)) → IsMet (Binary Greater p q) values → AreAhead (pos 1) q p values
met_greater p q values h = turned (λ x y. (x +ℤ pos 1) ≤ℤ y) (value p values) (value q values) (compared_holds (λ x y. int_lt y x) (λ x y. (y +ℤ pos 1) ≤ℤ x) (λ x y. less_holds y x (int_lt y x) refl) (value p values) (value q values) h)

pub met_at_least : (p q : Expression) (values : List (Option ℤ)) → IsMet (Binary GreaterOrEqual p q) values → AreAhead (pos 0) q p values
met_at_least p q values h = turned (λ x y. (x +ℤ pos 0) ≤ℤ y) (value p values) (value q values) (compared_holds (λ x y. int_le y x) (λ x y. (y +ℤ pos 0) ≤ℤ x) (λ x y. at_most_holds y x (int_le y x) refl) (value p values) (value q values) h)

pub met_equal : (p q : Expression) (values : List (Option ℤ)) → IsMet (Binary Equal p q) values → AreEqual p q values
met_equal p q values h = compared_holds int_eq ◌≡◌ (λ x y. equal_holds x y (int_eq x y) refl) (value p values) (value q values) h
