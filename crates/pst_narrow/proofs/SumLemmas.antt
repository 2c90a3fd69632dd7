-- Spans of sums, and of the parts along the left operands.
use Rattle.std.proofs.Common.{◌≡◌, ℕ, suc, ◌+◌, ◌-◌, ◌<◌, ℤ, ◌+ℤ◌, ◌-ℤ◌, ◌≤ℤ◌, int_le, ◌&&◌, inl, inr, Bool, true, false, cond, List, [], ◌∷◌, ◌++◌, length, take, Option, Some, None, refl, sym, subst, arith}
use Rattle.std.proofs.lemmas.Int.{ints}
use Rattle.std.proofs.lemmas.Bool.{cases_lt}
use Rattle.std.proofs.lemmas.List.{length_push, length-take-le, get_or-take, get_or_append_left, get_or_push}
use Rattle.pst_num.specs.Range.{least, greatest, in_range}
use Rattle.pst_num.specs.Arithmetic.{sum_of, difference_of}
use Rattle.pst_expr.specs.declared.ranges.Span.{Span}
use Rattle.pst_expr.specs.declared.tree.BinaryOp.{BinaryOp}
use Rattle.pst_expr.specs.declared.tree.BinaryOp.TheVariants.{Add, Sub}
use Rattle.pst_expr.specs.Spans.{IsInSpan}
use Rattle.pst_expr.specs.Tree.{Expression, Binary}
use Rattle.pst_expr.specs.Left.{left_part}
use Rattle.pst_expr.specs.Value.{value, variable_value, both}
use Rattle.pst_domain.specs.Bounds.{bound_of, AreWithin, AreInside, IsInside, Holds}
use Rattle.pst_domain.specs.Laws.{HoldsValues}
use Rattle.pst_narrow.specs.Sums.{IsLowEnough, IsHighEnough, HoldsOperator}
use Rattle.pst_narrow.specs.Chains.{HoldLeftParts, HoldsLast}

-- ---- values in range

in_range_holds : (s : Span) (z : ℤ) → (least ≤ℤ z → z ≤ℤ greatest → IsInSpan z s) → Holds (Some s) (in_range z)
in_range_holds s z h = go (int_le least z) (int_le z greatest) refl refl
  where
    by_le : (a b : ℤ) → int_le a b ≡ true → a ≤ℤ b
    by_le a b t = omega (arith, ints, t)

    go : (a b : Bool) → int_le least z ≡ a → int_le z greatest ≡ b → Holds (Some s) (cond (a && b) (Some z) None)
    go true true e f = h (by_le least z e) (by_le z greatest f)
    go true false e f = tt
    go false b e f = tt

-- what both operands give
both_hold : (f : ℤ → ℤ → Option ℤ) (s t r : Span) → ((x y : ℤ) → IsInSpan x s → IsInSpan y t → Holds (Some r) (f x y)) → (a b : Option ℤ) → Holds (Some s) a → Holds (Some t) b → Holds (Some r) (both f a b)
both_hold f s t r h None b at with = tt
both_hold f s t r h (Some x) None at with = tt
both_hold f s t r h (Some x) (Some y) at with = h x y at with

no_left : (f : ℤ → ℤ → Option ℤ) (a b : Option ℤ) → Holds None a → Holds None (both f a b)
no_left f None b h = tt
no_left f (Some x) b h = absurd h

no_right : (f : ℤ → ℤ → Option ℤ) (a b : Option ℤ) → Holds None b → Holds None (both f a b)
no_right f None b h = tt
no_right f (Some x) None h = tt
no_right f (Some x) (Some y) h = absurd h

pub sum_holds : (s t r : Span) → IsLowEnough (s.low +ℤ t.low) r.low → IsHighEnough (s.high +ℤ t.high) r.high → HoldsOperator Add (Some s) (Some t) (Some r)
sum_holds s t r low high p q bounds left right values within =
    both_hold sum_of s t r (λ x y at with. in_range_holds r (x +ℤ y) (λ from to. (low (x +ℤ y) from (omega (arith, ints, at.0, with.0)), high (x +ℤ y) to (omega (arith, ints, at.1, with.1))))) (value p values) (value q values) (left values within) (right values within)

pub difference_holds : (s t r : Span) → IsLowEnough (s.low -ℤ t.high) r.low → IsHighEnough (s.high -ℤ t.low) r.high → HoldsOperator Sub (Some s) (Some t) (Some r)
difference_holds s t r low high p q bounds left right values within =
    both_hold difference_of s t r (λ x y at with. in_range_holds r (x -ℤ y) (λ from to. (low (x -ℤ y) from (omega (arith, ints, at.0, with.1)), high (x -ℤ y) to (omega (arith, ints, at.1, with.0))))) (value p values) (value q values) (left values within) (right values within)

pub no_sum_left : (t : Option Span) → HoldsOperator Add None t None
no_sum_left t p q bounds left right values within = no_left sum_of (value p values) (value q values) (left values within)

pub no_sum_right : (s : Option Span) → HoldsOperator Add s None None
no_sum_right s p q bounds left right values within = no_right sum_of (value p values) (value q values) (right values within)

pub no_difference_left : (t : Option Span) → HoldsOperator Sub None t None
no_difference_left t p q bounds left right values within = no_left difference_of (value p values) (value q values) (left values within)

pub no_difference_right : (s : Option Span) → HoldsOperator Sub s None None
no_difference_right s p q bounds left right values within = no_right difference_of (value p values) (value q values) (right values within)

-- ---- parts along the left operands

at_count : (e : Expression) (r : Option Span) (bounds : List (Option Span)) (m n : ℕ) → m ≡ n → HoldsValues r (left_part m e) bounds → HoldsValues r (left_part n e) bounds
at_count e r bounds m n is h = subst (λ k. HoldsValues r (left_part k e) bounds) is h

with_span : (e : Expression) (r s : Option Span) (bounds : List (Option Span)) → r ≡ s → HoldsValues r e bounds → HoldsValues s e bounds
with_span e r s bounds is h = subst (λ k. HoldsValues k e bounds) is h

pub no_parts : (e : Expression) (bounds : List (Option Span)) → HoldLeftParts e [] bounds
no_parts e bounds k small = absurd (omega arith)

pub no_parts_in : (e : Expression) (spans bounds : List (Option Span)) → spans ≡ [] → HoldLeftParts e spans bounds
no_parts_in e spans bounds is = subst (λ s. HoldLeftParts e s bounds) (sym is) (no_parts e bounds)

module _ (op : BinaryOp) (a b : Expression) (spans bounds : List (Option Span)) where
  pub last_of : HoldLeftParts (Binary op a b) spans bounds → HoldsLast a spans bounds
  last_of h some =
      let n = length spans in
      let one : n - (n - 1) ≡ 1 = omega arith in
      at_count (Binary op a b) (bound_of spans (n - 1)) bounds (n - (n - 1)) 1 one (h (n - 1) (omega arith))

  pub parts_below : HoldLeftParts (Binary op a b) spans bounds → HoldLeftParts a (take (length spans - 1) spans) bounds
  parts_below h k small =
      let n = length spans in
      let long : length (take (n - 1) spans) ≡ n - 1 = length-take-le (n - 1) spans (omega arith) in
      let under : k < n - 1 = omega (arith, long, small) in
      let count : n - k ≡ suc (length (take (n - 1) spans) - k) = omega (arith, long, under) in
      with_span (left_part (length (take (n - 1) spans) - k) a) (bound_of spans k) (bound_of (take (n - 1) spans) k) bounds (sym (get_or-take (n - 1) spans k None under))
      (at_count (Binary op a b) (bound_of spans k) bounds (n - k) (suc (length (take (n - 1) spans) - k)) count (h k (omega (arith, under))))

  pub parts_pushed : (r : Option Span) → HoldLeftParts a spans bounds → HoldsValues r a bounds → HoldLeftParts (Binary op a b) (spans ++ r ∷ []) bounds
  parts_pushed r h here k small = elim (cases_lt k (length spans)) [
    | inl under ↦ before under
    | inr over ↦ last (omega (arith, over, small, long))
  ]
    where
      long : length (spans ++ r ∷ []) ≡ length spans + 1
      long = length_push spans r

      before : k < length spans → HoldsValues (bound_of (spans ++ r ∷ []) k) (left_part (length (spans ++ r ∷ []) - k) (Binary op a b)) bounds
      before under =
          let count : suc (length spans - k) ≡ length (spans ++ r ∷ []) - k = omega (arith, long, under) in
          at_count (Binary op a b) (bound_of (spans ++ r ∷ []) k) bounds (suc (length spans - k)) (length (spans ++ r ∷ []) - k) count
          (with_span (left_part (length spans - k) a) (bound_of spans k) (bound_of (spans ++ r ∷ []) k) bounds (sym (get_or_append_left spans (r ∷ []) None k under)) (h k under))

      last : k ≡ length spans → HoldsValues (bound_of (spans ++ r ∷ []) k) (left_part (length (spans ++ r ∷ []) - k) (Binary op a b)) bounds
      last is =
          let count : 1 ≡ length (spans ++ r ∷ []) - k = omega (arith, long, is) in
          at_count (Binary op a b) (bound_of (spans ++ r ∷ []) k) bounds 1 (length (spans ++ r ∷ []) - k) count
          (with_span a r (bound_of (spans ++ r ∷ []) k) bounds (sym (get_or_push spans r None k (sym is))) here)

-- ---- narrower bounds

inside_holds : (s t : Option Span) (v : Option ℤ) → IsInside s t → Holds s v → Holds t v
inside_holds s t None h k = tt
inside_holds None t (Some x) h k = absurd k
inside_holds (Some s) None (Some x) h k = absurd h
inside_holds (Some s) (Some t) (Some x) h k = (omega (arith, ints, h.0, k.0), omega (arith, ints, h.1, k.1))

within_outer : (inner outer : List (Option Span)) (values : List (Option ℤ)) → length inner ≡ length outer → AreInside inner outer → AreWithin inner values → AreWithin outer values
within_outer inner outer values count inside within i small =
    inside_holds (bound_of inner i) (bound_of outer i) (variable_value values i) (inside i) (within i (omega (arith, count, small)))

pub parts_narrower : (e : Expression) (spans inner outer : List (Option Span)) → length inner ≡ length outer → AreInside inner outer → HoldLeftParts e spans outer → HoldLeftParts e spans inner
parts_narrower e spans inner outer count inside h k small values within = h k small values (within_outer inner outer values count inside within)
