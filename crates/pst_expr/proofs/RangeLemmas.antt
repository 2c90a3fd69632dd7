-- Every value is a number from -2^63 to 2^63 - 1.
use Rattle.std.proofs.Common.{◌≡◌, ◌^◌, ℤ, pos, negsuc, neg_ℤ, ◌+ℤ◌, ◌-ℤ◌, ◌*ℤ◌, int_lt, int_le, not, int_div, int_rem, Bool, true, false, Option, Some, None, option_and_then, option_map, IfSome, IsTrue, nat_lt, cond, refl}
use Rattle.std.specs.Int.{int_shr}
use Rattle.std.specs.Ordering.{int_eq}
use Rattle.pst_num.specs.Range.{in_range, is_in_range}
use Rattle.pst_num.specs.Arithmetic.{sum_of, difference_of, product_of, quotient_of, remainder_of}
use Rattle.pst_num.specs.Bits.{bits_and, bits_or, bits_xor}
use Rattle.pst_num.specs.Shifts.{shifted_left, shifted_right}
use Rattle.pst_num.specs.Laws.{ActOnBits}
use Rattle.pst_expr.specs.declared.tree.UnaryOp.{UnaryOp}
use Rattle.pst_expr.specs.declared.tree.UnaryOp.TheVariants.{Neg, Not, BitNot}
use Rattle.pst_expr.specs.declared.tree.BinaryOp.{BinaryOp}
use Rattle.pst_expr.specs.declared.tree.BinaryOp.TheVariants.{Mul, Div, Rem, Add, Sub, Shl, Shr, Less, LessOrEqual, Greater, GreaterOrEqual, Equal, NotEqual, BitAnd, BitXor, BitOr, And, Or, Implies}
use Rattle.pst_expr.specs.Tree.{Constant, Variable, Unary, Binary, Element}
use Rattle.pst_expr.specs.Value.{value, given, variable_value, element_value, unary_value, binary_value, both, compared, by_left, truth_of, is_false, number_of}
use Rattle.pst_expr.specs.Laws.{ValuesAreInRange}

-- a value, if there is one, is in range
abbrev pub InRange : Option ℤ → Type 0
InRange v = IfSome v (λ z. IsTrue (is_in_range z))

kept : (b : Bool) (z : ℤ) → is_in_range z ≡ b → InRange (cond b (Some z) None)
kept true z h = h
kept false z h = tt

pub in_range_keeps : (z : ℤ) → InRange (in_range z)
in_range_keeps z = kept (is_in_range z) z refl

given_keeps : (v : Option ℤ) → InRange (given v)
given_keeps None = tt
given_keeps (Some z) = in_range_keeps z

either : (b : Bool) (v w : Option ℤ) → InRange v → InRange w → InRange (cond b v w)
either true v w h k = h
either false v w h k = k

pub truth_keeps : (b : Bool) → InRange (Some (number_of b))
truth_keeps true = refl
truth_keeps false = refl

both_keeps : (f : ℤ → ℤ → Option ℤ) (a b : Option ℤ) → ((x y : ℤ) → IsTrue (is_in_range x) → IsTrue (is_in_range y) → InRange (f x y)) → InRange a → InRange b → InRange (both f a b)
both_keeps f None b h p q = tt
both_keeps f (Some x) None h p q = tt
both_keeps f (Some x) (Some y) h p q = h x y p q

compared_keeps : (test : ℤ → ℤ → Bool) (a b : Option ℤ) → InRange a → InRange b → InRange (compared test a b)
compared_keeps test a b p q = both_keeps (λ x y. Some (number_of (test x y))) a b (λ x y h k. truth_keeps (test x y)) p q

by_left_keeps : (a v w : Option ℤ) → InRange v → InRange w → InRange (by_left a v w)
by_left_keeps None v w h k = tt
by_left_keeps (Some x) v w h k = either (is_false x) w v k h

truth_of_keeps : (v : Option ℤ) → InRange (option_map truth_of v)
truth_of_keeps None = tt
truth_of_keeps (Some x) = truth_keeps (not (is_false x))

left_keeps : (a b : ℤ) → InRange (shifted_left a b)
left_keeps a (pos n) = either (nat_lt n 64) (in_range (a *ℤ pos (2 ^ n))) None (in_range_keeps (a *ℤ pos (2 ^ n))) tt
left_keeps a (negsuc n) = tt

right_keeps : (a b : ℤ) → InRange (shifted_right a b)
right_keeps a (pos n) = either (nat_lt n 64) (in_range (int_shr a n)) None (in_range_keeps (int_shr a n)) tt
right_keeps a (negsuc n) = tt

module _ (bits : ActOnBits) where
  unary_keeps : (op : UnaryOp) (a : ℤ) → IsTrue (is_in_range a) → InRange (unary_value op a)
  unary_keeps Neg a h = in_range_keeps (neg_ℤ a)
  unary_keeps Not a h = truth_keeps (is_false a)
  unary_keeps BitNot a h = (bits a a h h).0.of_not

  binary_keeps : (op : BinaryOp) (a b : Option ℤ) → InRange a → InRange b → InRange (binary_value op a b)
  binary_keeps Mul a b p q = both_keeps product_of a b (λ x y h k. in_range_keeps (x *ℤ y)) p q
  binary_keeps Div a b p q = both_keeps quotient_of a b (λ x y h k. either (int_eq y (pos 0)) None (in_range (int_div x y)) tt (in_range_keeps (int_div x y))) p q
  binary_keeps Rem a b p q = both_keeps remainder_of a b (λ x y h k. either (int_eq y (pos 0)) None (in_range (int_rem x y)) tt (in_range_keeps (int_rem x y))) p q
  binary_keeps Add a b p q = both_keeps sum_of a b (λ x y h k. in_range_keeps (x +ℤ y)) p q
  binary_keeps Sub a b p q = both_keeps difference_of a b (λ x y h k. in_range_keeps (x -ℤ y)) p q
  binary_keeps Shl a b p q = both_keeps shifted_left a b (λ x y h k. left_keeps x y) p q
  binary_keeps Shr a b p q = both_keeps shifted_right a b (λ x y h k. right_keeps x y) p q
  binary_keeps Less a b p q = compared_keeps (λ x y. int_lt x y) a b p q
  binary_keeps LessOrEqual a b p q = compared_keeps (λ x y. int_le x y) a b p q
  binary_keeps Greater a b p q = compared_keeps (λ x y. int_lt y x) a b p q
  binary_keeps GreaterOrEqual a b p q = compared_keeps (λ x y. int_le y x) a b p q
  binary_keeps Equal a b p q = compared_keeps (λ x y. int_eq x y) a b p q
  binary_keeps NotEqual a b p q = compared_keeps (λ x y. not (int_eq x y)) a b p q
  binary_keeps BitAnd a b p q = both_keeps bits_and a b (λ x y h k. (bits x y h k).0.of_and) p q
  binary_keeps BitXor a b p q = both_keeps bits_xor a b (λ x y h k. (bits x y h k).0.of_xor) p q
  binary_keeps BitOr a b p q = both_keeps bits_or a b (λ x y h k. (bits x y h k).0.of_or) p q
  binary_keeps And a b p q = by_left_keeps a (option_map truth_of b) (Some (pos 0)) (truth_of_keeps b) refl
  binary_keeps Or a b p q = by_left_keeps a (Some (pos 1)) (option_map truth_of b) refl (truth_of_keeps b)
  binary_keeps Implies a b p q = by_left_keeps a (option_map truth_of b) (Some (pos 1)) (truth_of_keeps b) refl

  after_unary : (op : UnaryOp) (v : Option ℤ) → InRange v → InRange (option_and_then (unary_value op) v)
  after_unary op None h = tt
  after_unary op (Some a) h = unary_keeps op a h

  pub values_are_in_range : ValuesAreInRange
  values_are_in_range (Constant n) values = in_range_keeps n
  values_are_in_range (Variable i) values = given_keeps (variable_value values i)
  values_are_in_range (Unary op e) values = after_unary op (value e values) (values_are_in_range e values)
  values_are_in_range (Binary op a b) values = binary_keeps op (value a values) (value b values) (values_are_in_range a values) (values_are_in_range b values)
  values_are_in_range (Element first count e) values = given_keeps (option_and_then (element_value values first count) (value e values))
