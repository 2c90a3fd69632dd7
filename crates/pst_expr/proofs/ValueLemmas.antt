-- The value of an expression by the value of a part down its left operands.
use Rattle.std.proofs.Common.{◌≡◌, ℕ, zero, suc, ◌+◌, List, Option, ℤ, refl, sym, ap, ◌∙◌, zero-add}
use Prim.Native.Nat.add as nat_add
use Rattle.pst_expr.specs.Tree.{Expression, Constant, Variable, Unary, Binary, Element}
use Rattle.pst_expr.specs.Value.{value, binary_value}
use Rattle.pst_expr.specs.Left.{left_part, value_above}

pub value_by_part : (n : ℕ) (e : Expression) (values : List (Option ℤ)) → value_above n e (value (left_part n e) values) values ≡ value e values
value_by_part zero e values = refl
value_by_part (suc n) (Constant z) values = refl
value_by_part (suc n) (Variable i) values = refl
value_by_part (suc n) (Unary op a) values = refl
value_by_part (suc n) (Element i k a) values = refl
value_by_part (suc n) (Binary op a b) values = ap (λ v. binary_value op v (value b values)) (value_by_part n a values)

-- first the lower part of the way, then the upper one
pub value_above-add : (m n : ℕ) (e : Expression) (v : Option ℤ) (values : List (Option ℤ)) → value_above m e (value_above n (left_part m e) v values) values ≡ value_above (m + n) e v values
value_above-add zero n e v values = ap (λ k. value_above k e v values) (sym (zero-add n))
value_above-add (suc m) n (Constant z) v values = ap (λ k. value_above k (Constant z) v values) (sym (nat_add.suc m n))
value_above-add (suc m) n (Variable i) v values = ap (λ k. value_above k (Variable i) v values) (sym (nat_add.suc m n))
value_above-add (suc m) n (Unary op a) v values = ap (λ k. value_above k (Unary op a) v values) (sym (nat_add.suc m n))
value_above-add (suc m) n (Element i j a) v values = ap (λ k. value_above k (Element i j a) v values) (sym (nat_add.suc m n))
value_above-add (suc m) n (Binary op a b) v values =
    ap (λ w. binary_value op w (value b values)) (value_above-add m n a v values) ∙ ap (λ k. value_above k (Binary op a b) v values) (sym (nat_add.suc m n))
