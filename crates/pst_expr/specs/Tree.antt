-- Expressions without where they lie in memory: two trees with one view are the same expression.
use Rattle.std.specs.Prelude.{ℕ, ℤ}
use Rattle.pst_expr.specs.declared.tree.UnaryOp.{UnaryOp}
use Rattle.pst_expr.specs.declared.tree.BinaryOp.{BinaryOp}
use Rattle.pst_expr.specs.declared.tree.Expr.{Expr}
use Rattle.pst_expr.specs.declared.tree.Expr.TheVariants as tree

pub data Expression : Type 0 where
  Constant : (number : ℤ) → Expression
  Variable : (variable : ℕ) → Expression
  Unary : (operator : UnaryOp) (operand : Expression) → Expression
  Binary : (operator : BinaryOp) (left right : Expression) → Expression
  Element : (first count : ℕ) (index : Expression) → Expression

-- the expression of a tree
abbrev pub view : Expr → Expression
view (tree.Constant n) = Constant n
view (tree.Variable i) = Variable i
view (tree.Unary' op p e) = Unary op (view e)
view (tree.Binary' op p a q b) = Binary op (view a) (view b)
view (tree.Element' first count p e) = Element first count (view e)
