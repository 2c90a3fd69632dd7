-- The value of an expression, where the paths in it have given values.
use Rattle.std.specs.Prelude.{ℤ, pos, Option, Some}
use Rattle.std.specs.Option.{option_and_then}
use Rattle.pst_ast.specs.declared.leaf.Operator.{Operator}
use Rattle.pst_ast.specs.declared.leaf.Operator.TheVariants as sign
use Rattle.pst_ast.specs.declared.leaf.PrefixOperator.{PrefixOperator}
use Rattle.pst_ast.specs.declared.leaf.PrefixOperator.TheVariants as prefix
use Rattle.pst_ast.specs.ExpressionTree.{ExprTree, ExprUnary, ExprBinary, ExprIn, UnaryTree, UnaryPrefix, UnaryPrimary, PrimaryTree, PrimaryNumber, PrimaryTrue, PrimaryFalse, PrimaryPath, PrimaryGroup, PathTree, RangesTree, MakeRanges, NextRangeTree, MakeNextRange, RangeTree, RangeSingle, RangeBetween, NextRangeRow, NoNextRangeRow, MoreNextRangeRow}
use Rattle.pst_num.specs.Range.{in_range}
use Rattle.pst_expr.specs.declared.tree.UnaryOp.{UnaryOp}
use Rattle.pst_expr.specs.declared.tree.UnaryOp.TheVariants.{Neg, Not, BitNot}
use Rattle.pst_expr.specs.declared.tree.BinaryOp.{BinaryOp}
use Rattle.pst_expr.specs.declared.tree.BinaryOp.TheVariants.{Mul, Div, Rem, Add, Sub, Shl, Shr, Less, LessOrEqual, Greater, GreaterOrEqual, Equal, NotEqual, BitAnd, BitXor, BitOr, And, Or}
use Rattle.pst_expr.specs.Value.{unary_value, binary_value}

abbrev pub binary_of : Operator → BinaryOp
binary_of sign.Multiply = Mul
binary_of sign.Divide = Div
binary_of sign.Remainder = Rem
binary_of sign.Add = Add
binary_of sign.Subtract = Sub
binary_of sign.ShiftLeft = Shl
binary_of sign.ShiftRight = Shr
binary_of sign.Less = Less
binary_of sign.LessEqual = LessOrEqual
binary_of sign.Greater = Greater
binary_of sign.GreaterEqual = GreaterOrEqual
binary_of sign.Equal = Equal
binary_of sign.NotEqual = NotEqual
binary_of sign.BitAnd = BitAnd
binary_of sign.BitXor = BitXor
binary_of sign.BitOr = BitOr
binary_of sign.And = And
binary_of sign.Or = Or

abbrev pub unary_of : PrefixOperator → UnaryOp
unary_of prefix.Negate = Neg
unary_of prefix.Not = Not
unary_of prefix.Complement = BitNot

-- x in [a..b, c] is x >= a && x <= b || x == c
abbrev mutual
  pub value_under : (PathTree → Option ℤ) → ExprTree → Option ℤ
  value_under path (ExprUnary unary) = unary_under path unary
  value_under path (ExprBinary left operator place right) = binary_value (binary_of operator) (value_under path left) (value_under path right)
  value_under path (ExprIn left in_place opening ranges close) = in_ranges path (value_under path left) ranges

  pub unary_under : (PathTree → Option ℤ) → UnaryTree → Option ℤ
  unary_under path (UnaryPrefix operator place operand) = option_and_then (unary_value (unary_of operator)) (unary_under path operand)
  unary_under path (UnaryPrimary primary) = primary_under path primary

  pub primary_under : (PathTree → Option ℤ) → PrimaryTree → Option ℤ
  primary_under path (PrimaryNumber number) = in_range number.value
  primary_under path (PrimaryTrue place) = Some (pos 1)
  primary_under path (PrimaryFalse place) = Some (pos 0)
  primary_under path (PrimaryPath p) = path p
  primary_under path (PrimaryGroup left expr right) = value_under path expr

  pub in_ranges : (PathTree → Option ℤ) → Option ℤ → RangesTree → Option ℤ
  in_ranges path x (MakeRanges first rest) = or_in_rest path x (in_one path x first) rest

  pub in_one : (PathTree → Option ℤ) → Option ℤ → RangeTree → Option ℤ
  in_one path x (RangeSingle expr) = binary_value Equal x (value_under path expr)
  in_one path x (RangeBetween low dots high) = binary_value And (binary_value GreaterOrEqual x (value_under path low)) (binary_value LessOrEqual x (value_under path high))

  pub or_in_rest : (PathTree → Option ℤ) → Option ℤ → Option ℤ → NextRangeRow → Option ℤ
  or_in_rest path x before NoNextRangeRow = before
  or_in_rest path x before (MoreNextRangeRow head tail) = or_in_rest path x (binary_value Or before (in_next path x head)) tail

  pub in_next : (PathTree → Option ℤ) → Option ℤ → NextRangeTree → Option ℤ
  in_next path x (MakeNextRange comma range) = in_one path x range
