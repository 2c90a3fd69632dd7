-- The span of an expression holds its values, and narrower bounds give a narrower span.
use Rattle.std.proofs.Common.{ℕ, ◌+◌, ◌<◌, ℤ, List, length, Option, Some, None, option_and_then}
use Rattle.pst_expr.specs.declared.ranges.Span.{Span}
use Rattle.pst_expr.specs.declared.tree.UnaryOp.{UnaryOp}
use Rattle.pst_expr.specs.declared.tree.BinaryOp.{BinaryOp}
use Rattle.pst_expr.specs.declared.tree.BinaryOp.TheVariants.{Mul, Div, Rem, Add, Sub, Shl, Shr, Less, LessOrEqual, Greater, GreaterOrEqual, Equal, NotEqual, BitAnd, BitXor, BitOr, And, Or, Implies}
use Rattle.pst_expr.specs.Tree.{Constant, Variable, Unary, Binary, Element}
use Rattle.pst_expr.specs.Value.{value, variable_value, unary_value, binary_value, given, element_value}
use Rattle.pst_expr.specs.Laws.{ValuesAreInRange}
use Rattle.pst_domain.specs.Bounds.{bound_of, Holds, AreWithin, IsInside, AreInside}
use Rattle.pst_domain.specs.Interval.{interval, unary_span, binary_span}
use Rattle.pst_domain.specs.Element.{element_span}
use Rattle.pst_domain.specs.Laws.{SpansHoldValues, NarrowerBoundsGiveInnerSpans, SpansAreSane}
use Rattle.pst_domain.proofs.CutLaws.{Sane, InRange, cut_sane, point_holds, cut_span_sane, cut_span_inside, inside_self}
use Rattle.pst_domain.proofs.Lawful.{both_holds, both_inside, both_sane, held}
use Rattle.pst_domain.proofs.ArithmeticLaws.{sum_lawful, difference_lawful, product_lawful, quotient_lawful}
use Rattle.pst_domain.proofs.RemainderLaws.{remainder_lawful}
use Rattle.pst_domain.proofs.ShiftLaws.{left_lawful, right_lawful}
use Rattle.pst_domain.proofs.BitLaws.{and_lawful, or_lawful, xor_lawful}
use Rattle.pst_domain.proofs.ComparisonLaws.{less_lawful, less_or_equal_lawful, greater_lawful, greater_or_equal_lawful, equal_lawful, not_equal_lawful}
use Rattle.pst_domain.proofs.LogicLaws.{and_holds, or_holds, implies_holds, and_inside, or_inside, implies_inside, and_sane, or_sane, implies_sane}
use Rattle.pst_domain.proofs.UnaryLaws.{unary_holds, unary_inside, unary_sane}
use Rattle.pst_domain.proofs.ElementLaws.{given_holds, element_holds, element_inside, element_sane}

-- ---- spans are sane

binary_sane : (op : BinaryOp) (r q : Option Span) → Sane r → Sane q → Sane (binary_span op r q)
binary_sane Mul r q m n = both_sane _ _ product_lawful r q m n
binary_sane Div r q m n = both_sane _ _ quotient_lawful r q m n
binary_sane Rem r q m n = both_sane _ _ remainder_lawful r q m n
binary_sane Add r q m n = both_sane _ _ sum_lawful r q m n
binary_sane Sub r q m n = both_sane _ _ difference_lawful r q m n
binary_sane Shl r q m n = both_sane _ _ left_lawful r q m n
binary_sane Shr r q m n = both_sane _ _ right_lawful r q m n
binary_sane Less r q m n = both_sane _ _ less_lawful r q m n
binary_sane LessOrEqual r q m n = both_sane _ _ less_or_equal_lawful r q m n
binary_sane Greater r q m n = both_sane _ _ greater_lawful r q m n
binary_sane GreaterOrEqual r q m n = both_sane _ _ greater_or_equal_lawful r q m n
binary_sane Equal r q m n = both_sane _ _ equal_lawful r q m n
binary_sane NotEqual r q m n = both_sane _ _ not_equal_lawful r q m n
binary_sane BitAnd r q m n = both_sane _ _ and_lawful r q m n
binary_sane BitXor r q m n = both_sane _ _ xor_lawful r q m n
binary_sane BitOr r q m n = both_sane _ _ or_lawful r q m n
binary_sane And r q m n = and_sane r q
binary_sane Or r q m n = or_sane r q
binary_sane Implies r q m n = implies_sane r q

binary_holds : (op : BinaryOp) (r q : Option Span) (a b : Option ℤ) → Sane r → Sane q → Holds r a → Holds q b → InRange (binary_value op a b) → Holds (binary_span op r q) (binary_value op a b)
binary_holds Mul r q a b m n h k i = both_holds _ _ product_lawful r q a b m n h k i
binary_holds Div r q a b m n h k i = both_holds _ _ quotient_lawful r q a b m n h k i
binary_holds Rem r q a b m n h k i = both_holds _ _ remainder_lawful r q a b m n h k i
binary_holds Add r q a b m n h k i = both_holds _ _ sum_lawful r q a b m n h k i
binary_holds Sub r q a b m n h k i = both_holds _ _ difference_lawful r q a b m n h k i
binary_holds Shl r q a b m n h k i = both_holds _ _ left_lawful r q a b m n h k i
binary_holds Shr r q a b m n h k i = both_holds _ _ right_lawful r q a b m n h k i
binary_holds Less r q a b m n h k i = both_holds _ _ less_lawful r q a b m n h k i
binary_holds LessOrEqual r q a b m n h k i = both_holds _ _ less_or_equal_lawful r q a b m n h k i
binary_holds Greater r q a b m n h k i = both_holds _ _ greater_lawful r q a b m n h k i
binary_holds GreaterOrEqual r q a b m n h k i = both_holds _ _ greater_or_equal_lawful r q a b m n h k i
binary_holds Equal r q a b m n h k i = both_holds _ _ equal_lawful r q a b m n h k i
binary_holds NotEqual r q a b m n h k i = both_holds _ _ not_equal_lawful r q a b m n h k i
binary_holds BitAnd r q a b m n h k i = both_holds _ _ and_lawful r q a b m n h k i
binary_holds BitXor r q a b m n h k i = both_holds _ _ xor_lawful r q a b m n h k i
binary_holds BitOr r q a b m n h k i = both_holds _ _ or_lawful r q a b m n h k i
binary_holds And r q a b m n h k i = and_holds r q a b h k
binary_holds Or r q a b m n h k i = or_holds r q a b h k
binary_holds Implies r q a b m n h k i = implies_holds r q a b h k

binary_inside : (op : BinaryOp) (r q r' q' : Option Span) → Sane r → Sane q → Sane r' → Sane q' → IsInside r' r → IsInside q' q → IsInside (binary_span op r' q') (binary_span op r q)
binary_inside Mul r q r' q' m n m' n' h k = both_inside _ _ product_lawful r q r' q' m n m' n' h k
binary_inside Div r q r' q' m n m' n' h k = both_inside _ _ quotient_lawful r q r' q' m n m' n' h k
binary_inside Rem r q r' q' m n m' n' h k = both_inside _ _ remainder_lawful r q r' q' m n m' n' h k
binary_inside Add r q r' q' m n m' n' h k = both_inside _ _ sum_lawful r q r' q' m n m' n' h k
binary_inside Sub r q r' q' m n m' n' h k = both_inside _ _ difference_lawful r q r' q' m n m' n' h k
binary_inside Shl r q r' q' m n m' n' h k = both_inside _ _ left_lawful r q r' q' m n m' n' h k
binary_inside Shr r q r' q' m n m' n' h k = both_inside _ _ right_lawful r q r' q' m n m' n' h k
binary_inside Less r q r' q' m n m' n' h k = both_inside _ _ less_lawful r q r' q' m n m' n' h k
binary_inside LessOrEqual r q r' q' m n m' n' h k = both_inside _ _ less_or_equal_lawful r q r' q' m n m' n' h k
binary_inside Greater r q r' q' m n m' n' h k = both_inside _ _ greater_lawful r q r' q' m n m' n' h k
binary_inside GreaterOrEqual r q r' q' m n m' n' h k = both_inside _ _ greater_or_equal_lawful r q r' q' m n m' n' h k
binary_inside Equal r q r' q' m n m' n' h k = both_inside _ _ equal_lawful r q r' q' m n m' n' h k
binary_inside NotEqual r q r' q' m n m' n' h k = both_inside _ _ not_equal_lawful r q r' q' m n m' n' h k
binary_inside BitAnd r q r' q' m n m' n' h k = both_inside _ _ and_lawful r q r' q' m n m' n' h k
binary_inside BitXor r q r' q' m n m' n' h k = both_inside _ _ xor_lawful r q r' q' m n m' n' h k
binary_inside BitOr r q r' q' m n m' n' h k = both_inside _ _ or_lawful r q r' q' m n m' n' h k
binary_inside And r q r' q' m n m' n' h k = and_inside r q r' q' m' n' h k
binary_inside Or r q r' q' m n m' n' h k = or_inside r q r' q' m' n' h k
binary_inside Implies r q r' q' m n m' n' h k = implies_inside r q r' q' m' n' h k

after_unary_sane : (op : UnaryOp) (r : Option Span) → Sane (option_and_then (unary_span op) r)
after_unary_sane op None = tt
after_unary_sane op (Some s) = unary_sane op s

after_element_sane : (bounds : List (Option Span)) (first count : ℕ) (r : Option Span) → Sane (option_and_then (element_span bounds first count) r)
after_element_sane bounds first count None = tt
after_element_sane bounds first count (Some s) = element_sane bounds first count s

pub spans_are_sane : SpansAreSane
spans_are_sane (Constant n) bounds = cut_sane n n
spans_are_sane (Variable i) bounds = cut_span_sane (bound_of bounds i)
spans_are_sane (Unary op e) bounds = after_unary_sane op (interval e bounds)
spans_are_sane (Binary op a b) bounds = binary_sane op (interval a bounds) (interval b bounds) (spans_are_sane a bounds) (spans_are_sane b bounds)
spans_are_sane (Element first count e) bounds = after_element_sane bounds first count (interval e bounds)

-- ---- they hold the values

after_unary_holds : (op : UnaryOp) (r : Option Span) (v : Option ℤ) → Holds r v → InRange v → InRange (option_and_then (unary_value op) v) → Holds (option_and_then (unary_span op) r) (option_and_then (unary_value op) v)
after_unary_holds op r None h k i = tt
after_unary_holds op None (Some x) h k i = absurd h
after_unary_holds op (Some s) (Some x) h k i = unary_holds op s x h k i

after_element_holds : (bounds : List (Option Span)) (values : List (Option ℤ)) (first count : ℕ) (r : Option Span) (v : Option ℤ) → AreWithin bounds values → ((i : ℕ) → i < count → first + i < length bounds) → Holds r v → Holds (option_and_then (element_span bounds first count) r) (given (option_and_then (element_value values first count) v))
after_element_holds bounds values first count r None w below h = tt
after_element_holds bounds values first count None (Some x) w below h = absurd h
after_element_holds bounds values first count (Some s) (Some x) w below h = element_holds bounds values first count s x w below h

module _ (ranges : ValuesAreInRange) where
  pub spans_hold_values : SpansHoldValues
  spans_hold_values (Constant n) bounds below values within = held (interval (Constant n) bounds) n (λ r. point_holds n r)
  spans_hold_values (Variable i) bounds below values within = given_holds (bound_of bounds i) (variable_value values i) (within i below)
  spans_hold_values (Unary op e) bounds below values within =
      after_unary_holds op (interval e bounds) (value e values) (spans_hold_values e bounds below values within) (ranges e values) (ranges (Unary op e) values)
  spans_hold_values (Binary op a b) bounds below values within =
      binary_holds op (interval a bounds) (interval b bounds) (value a values) (value b values) (spans_are_sane a bounds) (spans_are_sane b bounds)
      (spans_hold_values a bounds below.0 values within) (spans_hold_values b bounds below.1 values within) (ranges (Binary op a b) values)
  spans_hold_values (Element first count e) bounds below values within =
      after_element_holds bounds values first count (interval e bounds) (value e values) within below.0 (spans_hold_values e bounds below.1 values within)

-- ---- narrower bounds

after_unary_inside : (op : UnaryOp) (r r' : Option Span) → Sane r' → IsInside r' r → IsInside (option_and_then (unary_span op) r') (option_and_then (unary_span op) r)
after_unary_inside op r None m h = tt
after_unary_inside op None (Some s') m h = absurd h
after_unary_inside op (Some s) (Some s') m h = unary_inside op s s' m h

after_element_inside : (inner outer : List (Option Span)) → AreInside inner outer → (first count : ℕ) (r r' : Option Span) → IsInside r' r → IsInside (option_and_then (element_span inner first count) r') (option_and_then (element_span outer first count) r)
after_element_inside inner outer w first count r None h = tt
after_element_inside inner outer w first count None (Some s') h = absurd h
after_element_inside inner outer w first count (Some s) (Some s') h = element_inside inner outer w first count s s' h

pub narrower_bounds_give_inner_spans : NarrowerBoundsGiveInnerSpans
narrower_bounds_give_inner_spans (Constant n) inner outer w = inside_self (interval (Constant n) outer)
narrower_bounds_give_inner_spans (Variable i) inner outer w = cut_span_inside (bound_of inner i) (bound_of outer i) (w i)
narrower_bounds_give_inner_spans (Unary op e) inner outer w =
    after_unary_inside op (interval e outer) (interval e inner) (spans_are_sane e inner) (narrower_bounds_give_inner_spans e inner outer w)
narrower_bounds_give_inner_spans (Binary op a b) inner outer w =
    binary_inside op (interval a outer) (interval b outer) (interval a inner) (interval b inner) (spans_are_sane a outer) (spans_are_sane b outer) (spans_are_sane a inner) (spans_are_sane b inner)
    (narrower_bounds_give_inner_spans a inner outer w) (narrower_bounds_give_inner_spans b inner outer w)
narrower_bounds_give_inner_spans (Element first count e) inner outer w =
    after_element_inside inner outer w first count (interval e outer) (interval e inner) (narrower_bounds_give_inner_spans e inner outer w)
