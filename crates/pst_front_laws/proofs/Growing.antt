-- Where more values of items are known, an expression keeps the value that it had.
use Rattle.std.proofs.Common.{◌≡◌, refl, sym, subst, ap}
use Rattle.std.specs.Prelude.{ℕ, ℤ, int_lt, int_le, List, Bool, true, false, not, Option, Some, None, option_map, option_and_then, if◌then◌else◌}
use Rattle.std.specs.Ordering.{int_eq}
use Rattle.pst_base.specs.declared.position.Place.{Place}
use Rattle.pst_ast.specs.ExpressionTree.{ExprTree, ExprUnary, ExprBinary, ExprIn, UnaryTree, UnaryPrefix, UnaryPrimary, PrimaryTree, PrimaryNumber, PrimaryTrue, PrimaryFalse, PrimaryPath, PrimaryGroup, PathTree, RangesTree, MakeRanges, NextRangeTree, MakeNextRange, RangeTree, RangeSingle, RangeBetween, NextRangeRow, NoNextRangeRow, MoreNextRangeRow}
use Rattle.pst_num.specs.Range.{in_range}
use Rattle.pst_num.specs.Arithmetic.{sum_of, difference_of, product_of, quotient_of, remainder_of}
use Rattle.pst_num.specs.Shifts.{shifted_left, shifted_right}
use Rattle.pst_num.specs.Bits.{bits_and, bits_or, bits_xor}
use Rattle.pst_expr.specs.declared.tree.BinaryOp.{BinaryOp}
use Rattle.pst_expr.specs.declared.tree.BinaryOp.TheVariants.{Mul, Div, Rem, Add, Sub, Shl, Shr, Less, LessOrEqual, Greater, GreaterOrEqual, Equal, NotEqual, BitAnd, BitXor, BitOr, And, Or, Implies}
use Rattle.pst_expr.specs.Value.{unary_value, binary_value, both, by_left, is_false, truth_of, number_of}
use Rattle.pst_ast.specs.declared.scope_declaration.Declaration.{Declaration}
use Rattle.pst_ast.specs.declared.environment.Environment.{Environment}
use Rattle.pst_type_rules.specs.Constants.{item_of_path, value_by}
use Rattle.pst_type_rules.specs.Values.{unary_of, binary_of, value_under, unary_under, primary_under, in_ranges, in_one, or_in_rest, in_next}

-- a value stays
abbrev pub Grows : Option ℤ → Option ℤ → Type 0
Grows None b = Unit {0}
Grows (Some x) b = b ≡ Some x

pub to_grow : (a b : Option ℤ) → ((x : ℤ) → a ≡ Some x → b ≡ Some x) → Grows a b
to_grow None b h = tt
to_grow (Some x) b h = h x refl

pub from_grow : (a b : Option ℤ) (x : ℤ) → Grows a b → a ≡ Some x → b ≡ Some x
from_grow a b x h p = subst (λ c. Grows c b) p h

same_grows : (a : Option ℤ) → Grows a a
same_grows None = tt
same_grows (Some x) = refl

both_grow : (f : ℤ → ℤ → Option ℤ) (a c b d : Option ℤ) → Grows a c → Grows b d → Grows (both f a b) (both f c d)
both_grow f None c b d p q = tt
both_grow f (Some x) c None d p q = tt
both_grow f (Some x) c (Some y) d p q = subst (λ (t : Option ℤ). Grows (f x y) (both f t d)) (sym p) (subst (λ (t : Option ℤ). Grows (f x y) (both f (Some x) t)) (sym q) (same_grows (f x y)))

pub then_grows : (f : ℤ → Option ℤ) (a c : Option ℤ) → Grows a c → Grows (option_and_then f a) (option_and_then f c)
then_grows f None c p = tt
then_grows f (Some x) c p = subst (λ (t : Option ℤ). Grows (f x) (option_and_then f t)) (sym p) (same_grows (f x))

map_grows : (f : ℤ → ℤ) (a c : Option ℤ) → Grows a c → Grows (option_map f a) (option_map f c)
map_grows f None c p = tt
map_grows f (Some x) c p = ap (option_map f) p

if_grows : (b : Bool) (s t u v : Option ℤ) → Grows s u → Grows t v → Grows (if b then s else t) (if b then u else v)
if_grows true s t u v p q = p
if_grows false s t u v p q = q

left_grows : (a c t f u g : Option ℤ) → Grows a c → Grows t u → Grows f g → Grows (by_left a t f) (by_left c u g)
left_grows None c t f u g p q r = tt
left_grows (Some x) c t f u g p q r = subst (λ (z : Option ℤ). Grows (by_left (Some x) t f) (by_left z u g)) (sym p) (if_grows (is_false x) f t g u r q)

binary_grows : (op : BinaryOp) (a c b d : Option ℤ) → Grows a c → Grows b d → Grows (binary_value op a b) (binary_value op c d)
binary_grows Mul a c b d p q = both_grow product_of a c b d p q
binary_grows Div a c b d p q = both_grow quotient_of a c b d p q
binary_grows Rem a c b d p q = both_grow remainder_of a c b d p q
binary_grows Add a c b d p q = both_grow sum_of a c b d p q
binary_grows Sub a c b d p q = both_grow difference_of a c b d p q
binary_grows Shl a c b d p q = both_grow shifted_left a c b d p q
binary_grows Shr a c b d p q = both_grow shifted_right a c b d p q
binary_grows Less a c b d p q = both_grow (λ x y. Some (number_of (int_lt x y))) a c b d p q
binary_grows LessOrEqual a c b d p q = both_grow (λ x y. Some (number_of (int_le x y))) a c b d p q
binary_grows Greater a c b d p q = both_grow (λ x y. Some (number_of (int_lt y x))) a c b d p q
binary_grows GreaterOrEqual a c b d p q = both_grow (λ x y. Some (number_of (int_le y x))) a c b d p q
binary_grows Equal a c b d p q = both_grow (λ x y. Some (number_of (int_eq x y))) a c b d p q
binary_grows NotEqual a c b d p q = both_grow (λ x y. Some (number_of (not (int_eq x y)))) a c b d p q
binary_grows BitAnd a c b d p q = both_grow bits_and a c b d p q
binary_grows BitXor a c b d p q = both_grow bits_xor a c b d p q
binary_grows BitOr a c b d p q = both_grow bits_or a c b d p q
binary_grows And a c b d p q = left_grows a c _ _ _ _ p (map_grows truth_of b d q) refl
binary_grows Or a c b d p q = left_grows a c _ _ _ _ p refl (map_grows truth_of b d q)
binary_grows Implies a c b d p q = left_grows a c _ _ _ _ p (map_grows truth_of b d q) refl

-- where paths keep their values, so do expressions
module _ (f g : PathTree → Option ℤ) (h : (p : PathTree) → Grows (f p) (g p)) where
  mutual
    pub value_grows : (e : ExprTree) → Grows (value_under f e) (value_under g e)
    value_grows (ExprUnary unary) = unary_grows unary
    value_grows (ExprBinary left operator place right) = binary_grows (binary_of operator) _ _ _ _ (value_grows left) (value_grows right)
    value_grows (ExprIn left in_place opening ranges close) = ranges_grow _ _ (value_grows left) ranges

    unary_grows : (u : UnaryTree) → Grows (unary_under f u) (unary_under g u)
    unary_grows (UnaryPrefix operator place operand) = then_grows (unary_value (unary_of operator)) _ _ (unary_grows operand)
    unary_grows (UnaryPrimary primary) = primary_grows primary

    primary_grows : (p : PrimaryTree) → Grows (primary_under f p) (primary_under g p)
    primary_grows (PrimaryNumber number) = same_grows (in_range number.value)
    primary_grows (PrimaryTrue place) = refl
    primary_grows (PrimaryFalse place) = refl
    primary_grows (PrimaryPath path) = h path
    primary_grows (PrimaryGroup left expr right) = value_grows expr

    ranges_grow : (x y : Option ℤ) → Grows x y → (r : RangesTree) → Grows (in_ranges f x r) (in_ranges g y r)
    ranges_grow x y p (MakeRanges first rest) = rest_grows x y p _ _ (one_grows x y p first) rest

    one_grows : (x y : Option ℤ) → Grows x y → (r : RangeTree) → Grows (in_one f x r) (in_one g y r)
    one_grows x y p (RangeSingle expr) = binary_grows Equal x y _ _ p (value_grows expr)
    one_grows x y p (RangeBetween low dots high) =
        binary_grows And _ _ _ _ (binary_grows GreaterOrEqual x y _ _ p (value_grows low)) (binary_grows LessOrEqual x y _ _ p (value_grows high))

    rest_grows : (x y : Option ℤ) → Grows x y → (a b : Option ℤ) → Grows a b → (r : NextRangeRow) → Grows (or_in_rest f x a r) (or_in_rest g y b r)
    rest_grows x y p a b q NoNextRangeRow = q
    rest_grows x y p a b q (MoreNextRangeRow head tail) = rest_grows x y p _ _ (binary_grows Or _ _ _ _ q (next_grows x y p head)) tail

    next_grows : (x y : Option ℤ) → Grows x y → (r : NextRangeTree) → Grows (in_next f x r) (in_next g y r)
    next_grows x y p (MakeNextRange comma range) = one_grows x y p range

path_grows : (f g : Place → Option ℤ) → ((p : Place) → Grows (f p) (g p)) → (d : Option Declaration)
    → Grows (option_and_then (λ d. f d.name.place) d) (option_and_then (λ d. g d.name.place) d)
path_grows f g h None = tt
path_grows f g h (Some d) = h d.name.place

-- where items keep their values, so do expressions
pub by_grows : (ds : List Declaration) (names : List (List ℕ)) (f g : Place → Option ℤ) (at : Environment) (e : ExprTree) → ((p : Place) → Grows (f p) (g p))
    → Grows (value_by ds names f at e) (value_by ds names g at e)
by_grows ds names f g at e h = value_grows _ _ (λ p. path_grows f g h (item_of_path ds names at p)) e
