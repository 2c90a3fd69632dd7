-- The span of an expression by the span of a part down its left operands.
use Rattle.std.proofs.Common.{◌≡◌, ℕ, zero, suc, ◌+◌, List, Option, refl, sym, ap, ◌∙◌, zero-add}
use Prim.Native.Nat.add as nat_add
use Rattle.pst_expr.specs.declared.ranges.Span.{Span}
use Rattle.pst_expr.specs.Tree.{Expression, Constant, Variable, Unary, Binary, Element}
use Rattle.pst_expr.specs.Left.{left_part}
use Rattle.pst_domain.specs.Interval.{interval, interval_above, binary_span}

interval_by_part : (n : ℕ) (e : Expression) (bounds : List (Option Span)) → interval_above n e (interval (left_part n e) bounds) bounds ≡ interval e bounds
interval_by_part zero e bounds = refl
interval_by_part (suc n) (Constant z) bounds = refl
interval_by_part (suc n) (Variable i) bounds = refl
interval_by_part (suc n) (Unary op a) bounds = refl
interval_by_part (suc n) (Element i k a) bounds = refl
interval_by_part (suc n) (Binary op a b) bounds = ap (λ r. binary_span op r (interval b bounds)) (interval_by_part n a bounds)

pub interval_of_part : (n : ℕ) (e p : Expression) (r : Option Span) (bounds : List (Option Span)) → r ≡ interval p bounds → p ≡ left_part n e → interval_above n e r bounds ≡ interval e bounds
interval_of_part n e p r bounds is part = ap (λ s. interval_above n e s bounds) (is ∙ ap (λ q. interval q bounds) part) ∙ interval_by_part n e bounds

-- first the lower part of the way, then the upper one
pub interval_above-add : (m n : ℕ) (e : Expression) (r : Option Span) (bounds : List (Option Span)) → interval_above m e (interval_above n (left_part m e) r bounds) bounds ≡ interval_above (m + n) e r bounds
interval_above-add zero n e r bounds = ap (λ k. interval_above k e r bounds) (sym (zero-add n))
interval_above-add (suc m) n (Constant z) r bounds = ap (λ k. interval_above k (Constant z) r bounds) (sym (nat_add.suc m n))
interval_above-add (suc m) n (Variable i) r bounds = ap (λ k. interval_above k (Variable i) r bounds) (sym (nat_add.suc m n))
interval_above-add (suc m) n (Unary op a) r bounds = ap (λ k. interval_above k (Unary op a) r bounds) (sym (nat_add.suc m n))
interval_above-add (suc m) n (Element i j a) r bounds = ap (λ k. interval_above k (Element i j a) r bounds) (sym (nat_add.suc m n))
interval_above-add (suc m) n (Binary op a b) r bounds =
    ap (λ w. binary_span op w (interval b bounds)) (interval_above-add m n a r bounds) ∙ ap (λ k. interval_above k (Binary op a b) r bounds) (sym (nat_add.suc m n))
