-- Values that agree where both are there.
use Rattle.std.proofs.Common.{◌≡◌, refl, subst, ap}
use Rattle.std.specs.Prelude.{ℤ, int_lt, int_le, Bool, true, false, not, Option, Some, None, option_map, option_and_then, if◌then◌else◌}
use Rattle.std.specs.Ordering.{int_eq}
use Rattle.pst_ast.specs.ExpressionTree.{ExprTree, ExprUnary, ExprBinary, ExprIn, UnaryTree, UnaryPrefix, UnaryPrimary, PrimaryTree, PrimaryNumber, PrimaryTrue, PrimaryFalse, PrimaryPath, PrimaryGroup, PathTree, RangesTree, MakeRanges, NextRangeTree, MakeNextRange, RangeTree, RangeSingle, RangeBetween, NextRangeRow, NoNextRangeRow, MoreNextRangeRow}
use Rattle.pst_num.specs.Range.{in_range}
use Rattle.pst_num.specs.Arithmetic.{sum_of, difference_of, product_of, quotient_of, remainder_of}
use Rattle.pst_num.specs.Shifts.{shifted_left, shifted_right}
use Rattle.pst_num.specs.Bits.{bits_and, bits_or, bits_xor}
use Rattle.pst_expr.specs.declared.tree.BinaryOp.{BinaryOp}
use Rattle.pst_expr.specs.declared.tree.BinaryOp.TheVariants.{Mul, Div, Rem, Add, Sub, Shl, Shr, Less, LessOrEqual, Greater, GreaterOrEqual, Equal, NotEqual, BitAnd, BitXor, BitOr, And, Or, Implies}
use Rattle.pst_expr.specs.Value.{unary_value, binary_value, both, by_left, is_false, truth_of, number_of}
use Rattle.pst_type_rules.specs.Values.{unary_of, binary_of, value_under, unary_under, primary_under, in_ranges, in_one, or_in_rest, in_next}

abbrev pub Agree : Option ℤ → Option ℤ → Type 0
Agree None b = Unit {0}
Agree (Some x) None = Unit {0}
Agree (Some x) (Some y) = x ≡ y

pub to_agree : (a b : Option ℤ) → ((x y : ℤ) → a ≡ Some x → b ≡ Some y → x ≡ y) → Agree a b
to_agree None b h = tt
to_agree (Some x) None h = tt
to_agree (Some x) (Some y) h = h x y refl refl

pub from_agree : (a b : Option ℤ) (x y : ℤ) → Agree a b → a ≡ Some x → b ≡ Some y → x ≡ y
from_agree a b x y h p q = subst (λ c. Agree (Some x) c) q (subst (λ c. Agree c b) p h)

same_agrees : (a : Option ℤ) → Agree a a
same_agrees None = tt
same_agrees (Some x) = refl

with_none : (a : Option ℤ) → Agree a None
with_none None = tt
with_none (Some x) = tt

both_agree : (f : ℤ → ℤ → Option ℤ) (a c b d : Option ℤ) → Agree a c → Agree b d → Agree (both f a b) (both f c d)
both_agree f None c b d p q = tt
both_agree f (Some x) None b d p q = with_none (both f (Some x) b)
both_agree f (Some x) (Some y) None d p q = tt
both_agree f (Some x) (Some y) (Some z) None p q = with_none (f x z)
both_agree f (Some x) (Some y) (Some z) (Some w) p q = subst (λ (t : ℤ). Agree (f x z) (f t w)) p (subst (λ (t : ℤ). Agree (f x z) (f x t)) q (same_agrees (f x z)))

then_agree : (f : ℤ → Option ℤ) (a c : Option ℤ) → Agree a c → Agree (option_and_then f a) (option_and_then f c)
then_agree f None c p = tt
then_agree f (Some x) None p = with_none (f x)
then_agree f (Some x) (Some y) p = subst (λ (t : ℤ). Agree (f x) (f t)) p (same_agrees (f x))

map_agree : (f : ℤ → ℤ) (a c : Option ℤ) → Agree a c → Agree (option_map f a) (option_map f c)
map_agree f None c p = tt
map_agree f (Some x) None p = tt
map_agree f (Some x) (Some y) p = ap f p

if_agree : (b : Bool) (s t u v : Option ℤ) → Agree s u → Agree t v → Agree (if b then s else t) (if b then u else v)
if_agree true s t u v p q = p
if_agree false s t u v p q = q

left_agree : (a c t f u g : Option ℤ) → Agree a c → Agree t u → Agree f g → Agree (by_left a t f) (by_left c u g)
left_agree None c t f u g p q r = tt
left_agree (Some x) None t f u g p q r = with_none (by_left (Some x) t f)
left_agree (Some x) (Some y) t f u g p q r = subst (λ (z : ℤ). Agree (by_left (Some x) t f) (by_left (Some z) u g)) p (if_agree (is_false x) f t g u r q)

binary_agree : (op : BinaryOp) (a c b d : Option ℤ) → Agree a c → Agree b d → Agree (binary_value op a b) (binary_value op c d)
binary_agree Mul a c b d p q = both_agree product_of a c b d p q
binary_agree Div a c b d p q = both_agree quotient_of a c b d p q
binary_agree Rem a c b d p q = both_agree remainder_of a c b d p q
binary_agree Add a c b d p q = both_agree sum_of a c b d p q
binary_agree Sub a c b d p q = both_agree difference_of a c b d p q
binary_agree Shl a c b d p q = both_agree shifted_left a c b d p q
binary_agree Shr a c b d p q = both_agree shifted_right a c b d p q
binary_agree Less a c b d p q = both_agree (λ x y. Some (number_of (int_lt x y))) a c b d p q
binary_agree LessOrEqual a c b d p q = both_agree (λ x y. Some (number_of (int_le x y))) a c b d p q
binary_agree Greater a c b d p q = both_agree (λ x y. Some (number_of (int_lt y x))) a c b d p q
binary_agree GreaterOrEqual a c b d p q = both_agree (λ x y. Some (number_of (int_le y x))) a c b d p q
binary_agree Equal a c b d p q = both_agree (λ x y. Some (number_of (int_eq x y))) a c b d p q
binary_agree NotEqual a c b d p q = both_agree (λ x y. Some (number_of (not (int_eq x y)))) a c b d p q
binary_agree BitAnd a c b d p q = both_agree bits_and a c b d p q
binary_agree BitXor a c b d p q = both_agree bits_xor a c b d p q
binary_agree BitOr a c b d p q = both_agree bits_or a c b d p q
binary_agree And a c b d p q = left_agree a c _ _ _ _ p (map_agree truth_of b d q) refl
binary_agree Or a c b d p q = left_agree a c _ _ _ _ p refl (map_agree truth_of b d q)
binary_agree Implies a c b d p q = left_agree a c _ _ _ _ p (map_agree truth_of b d q) refl

-- where paths have values that agree, so have expressions
module _ (f g : PathTree → Option ℤ) (h : (p : PathTree) → Agree (f p) (g p)) where
  mutual
    pub value_agrees : (e : ExprTree) → Agree (value_under f e) (value_under g e)
    value_agrees (ExprUnary unary) = unary_agrees unary
    value_agrees (ExprBinary left operator place right) = binary_agree (binary_of operator) _ _ _ _ (value_agrees left) (value_agrees right)
    value_agrees (ExprIn left in_place opening ranges close) = ranges_agree _ _ (value_agrees left) ranges

    unary_agrees : (u : UnaryTree) → Agree (unary_under f u) (unary_under g u)
    unary_agrees (UnaryPrefix operator place operand) = then_agree (unary_value (unary_of operator)) _ _ (unary_agrees operand)
    unary_agrees (UnaryPrimary primary) = primary_agrees primary

    primary_agrees : (p : PrimaryTree) → Agree (primary_under f p) (primary_under g p)
    primary_agrees (PrimaryNumber number) = same_agrees (in_range number.value)
    primary_agrees (PrimaryTrue place) = refl
    primary_agrees (PrimaryFalse place) = refl
    primary_agrees (PrimaryPath path) = h path
    primary_agrees (PrimaryGroup left expr right) = value_agrees expr

    ranges_agree : (x y : Option ℤ) → Agree x y → (r : RangesTree) → Agree (in_ranges f x r) (in_ranges g y r)
    ranges_agree x y p (MakeRanges first rest) = rest_agree x y p _ _ (one_agrees x y p first) rest

    one_agrees : (x y : Option ℤ) → Agree x y → (r : RangeTree) → Agree (in_one f x r) (in_one g y r)
    one_agrees x y p (RangeSingle expr) = binary_agree Equal x y _ _ p (value_agrees expr)
    one_agrees x y p (RangeBetween low dots high) =
        binary_agree And _ _ _ _ (binary_agree GreaterOrEqual x y _ _ p (value_agrees low)) (binary_agree LessOrEqual x y _ _ p (value_agrees high))

    rest_agree : (x y : Option ℤ) → Agree x y → (a b : Option ℤ) → Agree a b → (r : NextRangeRow) → Agree (or_in_rest f x a r) (or_in_rest g y b r)
    rest_agree x y p a b q NoNextRangeRow = q
    rest_agree x y p a b q (MoreNextRangeRow head tail) = rest_agree x y p _ _ (binary_agree Or _ _ _ _ q (next_agrees x y p head)) tail

    next_agrees : (x y : Option ℤ) → Agree x y → (r : NextRangeTree) → Agree (in_next f x r) (in_next g y r)
    next_agrees x y p (MakeNextRange comma range) = one_agrees x y p range
