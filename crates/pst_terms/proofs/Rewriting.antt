-- An expression has the value of its term.
use Rattle.std.proofs.Common.{◌≡◌, refl, ap}
use Rattle.std.specs.Prelude.{ℤ, Option}
use Rattle.std.specs.Option.{option_and_then}
use Rattle.pst_ast.specs.ExpressionTree.{ExprTree, ExprUnary, ExprBinary, ExprIn, UnaryTree, UnaryPrefix, UnaryPrimary, PrimaryTree, PrimaryNumber, PrimaryTrue, PrimaryFalse, PrimaryPath, PrimaryGroup, PathTree, RangesTree, MakeRanges, NextRangeTree, MakeNextRange, RangeTree, RangeSingle, RangeBetween, NextRangeRow, NoNextRangeRow, MoreNextRangeRow}
use Rattle.pst_expr.specs.declared.tree.BinaryOp.TheVariants.{LessOrEqual, GreaterOrEqual, Equal, And, Or}
use Rattle.pst_expr.specs.Value.{unary_value, binary_value}
use Rattle.pst_type_rules.specs.Values.{unary_of, binary_of, value_under, unary_under, primary_under, in_ranges, in_one, or_in_rest, in_next}
use Rattle.pst_terms.specs.Terms.{Term, Infix, Reading, term_of, unary_term, primary_term, ranges_term, or_ranges, next_range_term, range_term}
use Rattle.pst_terms.specs.Values.{term_value, path_value}

module _ (X : Type 0) (f : X → Option ℤ) (read : PathTree → Reading X) where
  mutual
    pub same_value : (e : ExprTree) → term_value f (term_of read e) ≡ value_under (path_value f read) e
    same_value (ExprUnary unary) = same_unary unary
    same_value (ExprBinary left operator place right) = λ i. binary_value (binary_of operator) (same_value left i) (same_value right i)
    same_value (ExprIn left in_place opening ranges close) = same_ranges (term_of read left) (value_under (path_value f read) left) (same_value left) ranges

    same_unary : (u : UnaryTree) → term_value f (unary_term read u) ≡ unary_under (path_value f read) u
    same_unary (UnaryPrefix operator place operand) = ap (λ (v : Option ℤ). option_and_then (unary_value (unary_of operator)) v) (same_unary operand)
    same_unary (UnaryPrimary primary) = same_primary primary

    same_primary : (p : PrimaryTree) → term_value f (primary_term read p) ≡ primary_under (path_value f read) p
    same_primary (PrimaryNumber number) = refl
    same_primary (PrimaryTrue place) = refl
    same_primary (PrimaryFalse place) = refl
    same_primary (PrimaryPath path) = refl
    same_primary (PrimaryGroup left expr right) = same_value expr

    same_ranges : (x : Term X) (v : Option ℤ) → term_value f x ≡ v → (r : RangesTree) → term_value f (ranges_term read x r) ≡ in_ranges (path_value f read) v r
    same_ranges x v e (MakeRanges first rest) = same_rest x v e (range_term read x first) (in_one (path_value f read) v first) (same_range x v e first) rest

    same_range : (x : Term X) (v : Option ℤ) → term_value f x ≡ v → (r : RangeTree) → term_value f (range_term read x r) ≡ in_one (path_value f read) v r
    same_range x v e (RangeSingle expr) = λ i. binary_value Equal (e i) (same_value expr i)
    same_range x v e (RangeBetween low dots high) = λ i. binary_value And (binary_value GreaterOrEqual (e i) (same_value low i)) (binary_value LessOrEqual (e i) (same_value high i))

    same_rest : (x : Term X) (v : Option ℤ) → term_value f x ≡ v → (before : Term X) (w : Option ℤ) → term_value f before ≡ w → (r : NextRangeRow)
        → term_value f (or_ranges read x before r) ≡ or_in_rest (path_value f read) v w r
    same_rest x v e before w h NoNextRangeRow = h
    same_rest x v e before w h (MoreNextRangeRow head tail) =
        same_rest x v e (Infix Or before (next_range_term read x head)) (binary_value Or w (in_next (path_value f read) v head)) (λ i. binary_value Or (h i) (same_next x v e head i)) tail

    same_next : (x : Term X) (v : Option ℤ) → term_value f x ≡ v → (r : NextRangeTree) → term_value f (next_range_term read x r) ≡ in_next (path_value f read) v r
    same_next x v e (MakeNextRange comma range) = same_range x v e range
