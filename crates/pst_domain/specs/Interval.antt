-- The span of an expression.
use Rattle.std.specs.Prelude.{ℕ, zero, suc, List, Bool, true, Option, Some, None, option_map, option_and_then}
use Rattle.pst_num.specs.Shifts.{shifted_left, shifted_right}
use Rattle.pst_num.specs.Bits.{bits_or, bits_xor}
use Rattle.pst_expr.specs.declared.ranges.Span.{Span}
use Rattle.pst_expr.specs.declared.tree.UnaryOp.{UnaryOp}
use Rattle.pst_expr.specs.declared.tree.UnaryOp.TheVariants.{Neg, Not, BitNot}
use Rattle.pst_expr.specs.declared.tree.BinaryOp.{BinaryOp}
use Rattle.pst_expr.specs.declared.tree.BinaryOp.TheVariants.{Mul, Div, Rem, Add, Sub, Shl, Shr, Less, LessOrEqual, Greater, GreaterOrEqual, Equal, NotEqual, BitAnd, BitXor, BitOr, And, Or, Implies}
use Rattle.pst_expr.specs.Tree.{Expression, Constant, Variable, Unary, Binary, Element}
use Rattle.pst_domain.specs.declared.truth.Truth.{Truth}
use Rattle.pst_domain.specs.Bounds.{bound_of}
use Rattle.pst_domain.specs.Cut.{cut_span, point}
use Rattle.pst_domain.specs.Truth.{is_zero, truth_of, truth_of_span, span_of_truth, negated, and_truth, or_truth, implies_truth}
use Rattle.pst_domain.specs.Comparison.{less_truth, less_or_equal_truth, equal_truth, not_equal_truth}
use Rattle.pst_domain.specs.Arithmetic.{negation_span, inverse_span, sum_span, difference_span, product_span, quotient_span, remainder_span}
use Rattle.pst_domain.specs.Shifts.{shift_span}
use Rattle.pst_domain.specs.Bits.{and_span, or_span}
use Rattle.pst_domain.specs.Element.{element_span}

abbrev pub unary_span : UnaryOp → Span → Option Span
unary_span Neg s = negation_span s
unary_span Not s = Some (span_of_truth (negated (truth_of_span s)))
unary_span BitNot s = inverse_span s

-- none where an operand has none
abbrev pub both : (Span → Span → Option Span) → Option Span → Option Span → Option Span
both f a b = option_and_then (λ s. option_and_then (f s) b) a

abbrev pub compared : (Span → Span → Truth) → Option Span → Option Span → Option Span
compared test a b = both (λ s t. Some (span_of_truth (test s t))) a b

abbrev pub logical : (Option Truth → Option Truth → Option Truth) → Option Span → Option Span → Option Span
logical f a b = option_map span_of_truth (f (truth_of a) (truth_of b))

abbrev pub binary_span : BinaryOp → Option Span → Option Span → Option Span
binary_span Mul a b = both product_span a b
binary_span Div a b = both quotient_span a b
binary_span Rem a b = both remainder_span a b
binary_span Add a b = both sum_span a b
binary_span Sub a b = both difference_span a b
binary_span Shl a b = both (shift_span shifted_left) a b
binary_span Shr a b = both (shift_span shifted_right) a b
binary_span Less a b = compared less_truth a b
binary_span LessOrEqual a b = compared less_or_equal_truth a b
binary_span Greater a b = compared (λ s t. less_truth t s) a b
binary_span GreaterOrEqual a b = compared (λ s t. less_or_equal_truth t s) a b
binary_span Equal a b = compared equal_truth a b
binary_span NotEqual a b = compared not_equal_truth a b
binary_span BitAnd a b = both and_span a b
binary_span BitXor a b = both (or_span bits_xor) a b
binary_span BitOr a b = both (or_span bits_or) a b
binary_span And a b = logical and_truth a b
binary_span Or a b = logical or_truth a b
binary_span Implies a b = logical implies_truth a b

-- the span of an expression under bounds of its variables: it holds each value that the expression may have
abbrev pub interval : Expression → List (Option Span) → Option Span
interval (Constant n) bounds = point n
interval (Variable i) bounds = cut_span (bound_of bounds i)
interval (Unary op e) bounds = option_and_then (unary_span op) (interval e bounds)
interval (Binary op a b) bounds = binary_span op (interval a bounds) (interval b bounds)
interval (Element first count e) bounds = option_and_then (element_span bounds first count) (interval e bounds)

-- the span of an expression, were r the span of the part that stands n operators down its left operands
abbrev pub interval_above : ℕ → Expression → Option Span → List (Option Span) → Option Span
interval_above zero e r bounds = r
interval_above (suc n) (Binary op a b) r bounds = binary_span op (interval_above n a r bounds) (interval b bounds)
interval_above (suc n) e r bounds = interval e bounds

-- a span with no number but 0, or none
abbrev pub is_refused : Option Span → Bool
is_refused None = true
is_refused (Some s) = is_zero s
