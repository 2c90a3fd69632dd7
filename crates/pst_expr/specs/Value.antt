-- The value of an expression: a whole number from -2^63 to 2^63 - 1, or none.
use Rattle.std.specs.Prelude.{ℕ, ◌+◌, ℤ, pos, negsuc, int_lt, int_le, List, Bool, not, Option, Some, None, option_map, option_and_then, nat_lt, slice_index_or, if◌then◌else◌}
use Rattle.std.specs.Ordering.{int_eq}
use Rattle.pst_num.specs.Range.{in_range}
use Rattle.pst_num.specs.Arithmetic.{sum_of, difference_of, product_of, quotient_of, remainder_of, negation_of}
use Rattle.pst_num.specs.Shifts.{shifted_left, shifted_right}
use Rattle.pst_num.specs.Bits.{bits_and, bits_or, bits_xor, bits_not}
use Rattle.pst_expr.specs.declared.tree.UnaryOp.{UnaryOp}
use Rattle.pst_expr.specs.declared.tree.UnaryOp.TheVariants.{Neg, Not, BitNot}
use Rattle.pst_expr.specs.declared.tree.BinaryOp.{BinaryOp}
use Rattle.pst_expr.specs.declared.tree.BinaryOp.TheVariants.{Mul, Div, Rem, Add, Sub, Shl, Shr, Less, LessOrEqual, Greater, GreaterOrEqual, Equal, NotEqual, BitAnd, BitXor, BitOr, And, Or, Implies}
use Rattle.pst_expr.specs.Tree.{Expression, Constant, Variable, Unary, Binary, Element}

-- 1 for true and 0 for false
abbrev pub number_of : Bool → ℤ
number_of b = if b then pos 1 else pos 0

-- a number is false where it is 0
abbrev pub is_false : ℤ → Bool
is_false a = int_eq a (pos 0)

-- 1 where a number is true, 0 where it is false
abbrev pub truth_of : ℤ → ℤ
truth_of a = number_of (not (is_false a))

abbrev pub unary_value : UnaryOp → ℤ → Option ℤ
unary_value Neg a = negation_of a
unary_value Not a = Some (number_of (is_false a))
unary_value BitNot a = bits_not a

-- what an operation gives for both operands, none where one of them has no value
abbrev pub both : (ℤ → ℤ → Option ℤ) → Option ℤ → Option ℤ → Option ℤ
both f a b = option_and_then (λ x. option_and_then (f x) b) a

-- 1 where the operands compare, else 0
abbrev pub compared : (ℤ → ℤ → Bool) → Option ℤ → Option ℤ → Option ℤ
compared test a b = both (λ x y. Some (number_of (test x y))) a b

-- what a logical operator gives where its left operand is true, and where it is false; none where it has no value
abbrev pub by_left : Option ℤ → Option ℤ → Option ℤ → Option ℤ
by_left a where_true where_false = option_and_then (λ x. if is_false x then where_false else where_true) a

abbrev pub binary_value : BinaryOp → Option ℤ → Option ℤ → Option ℤ
binary_value Mul a b = both product_of a b
binary_value Div a b = both quotient_of a b
binary_value Rem a b = both remainder_of a b
binary_value Add a b = both sum_of a b
binary_value Sub a b = both difference_of a b
binary_value Shl a b = both shifted_left a b
binary_value Shr a b = both shifted_right a b
binary_value Less a b = compared int_lt a b
binary_value LessOrEqual a b = compared int_le a b
binary_value Greater a b = compared (λ x y. int_lt y x) a b
binary_value GreaterOrEqual a b = compared (λ x y. int_le y x) a b
binary_value Equal a b = compared int_eq a b
binary_value NotEqual a b = compared (λ x y. not (int_eq x y)) a b
binary_value BitAnd a b = both bits_and a b
binary_value BitXor a b = both bits_xor a b
binary_value BitOr a b = both bits_or a b
binary_value And a b = by_left a (option_map truth_of b) (Some (pos 0))
binary_value Or a b = by_left a (Some (pos 1)) (option_map truth_of b)
binary_value Implies a b = by_left a (option_map truth_of b) (Some (pos 1))

-- the value of a variable, none where it stands beyond the list
abbrev pub variable_value : List (Option ℤ) → ℕ → Option ℤ
variable_value values i = slice_index_or values i None

-- the value of the element at an index, none where the index is outside 0 to count - 1
abbrev pub element_value : List (Option ℤ) → ℕ → ℕ → ℤ → Option ℤ
element_value values first count (pos i) = if nat_lt i count then variable_value values (first + i) else None
element_value values first count (negsuc _) = None

-- a number that is given, where it is a value
abbrev pub given : Option ℤ → Option ℤ
given v = option_and_then in_range v

-- the value of an expression under the values of the variables
abbrev pub value : Expression → List (Option ℤ) → Option ℤ
value (Constant n) values = in_range n
value (Variable i) values = given (variable_value values i)
value (Unary op e) values = option_and_then (unary_value op) (value e values)
value (Binary op a b) values = binary_value op (value a values) (value b values)
value (Element first count e) values = given (option_and_then (element_value values first count) (value e values))

-- what a logical operator gives whatever its right operand is, none where it depends on it
abbrev pub decided_by_left : BinaryOp → ℤ → Option ℤ
decided_by_left And a = if is_false a then Some (pos 0) else None
decided_by_left Or a = if is_false a then None else Some (pos 1)
decided_by_left Implies a = if is_false a then Some (pos 1) else None
decided_by_left _ a = None
