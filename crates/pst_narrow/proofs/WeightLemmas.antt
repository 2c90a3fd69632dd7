-- Operands weigh less than what they are operands of.
use Rattle.std.proofs.Common.{◌≡◌, ℕ, ◌<◌, Box, Global, arith, ap}
use Rattle.pst_expr.specs.declared.tree.UnaryOp.{UnaryOp}
use Rattle.pst_expr.specs.declared.tree.BinaryOp.{BinaryOp}
use Rattle.pst_expr.specs.declared.tree.Expr.{Expr}
use Rattle.pst_expr.specs.declared.tree.Expr.TheViews as whole
use Rattle.pst_expr.specs.Tree.{view}
use Rattle.pst_expr.proofs.Weight.{weight, weight_some}

module _ (e d : Expr) (t : ℕ) (weighs : weight (view e) ≡ t) where
  pub operand_lighter : (op : UnaryOp) (a : Box Expr Global) → e ≡ whole.Unary op a → d ≡ a.value → weight (view d) < t
  operand_lighter op a is here = omega (arith, ap (λ x. weight (view x)) is, ap (λ x. weight (view x)) here)

  pub left_lighter : (op : BinaryOp) (a b : Box Expr Global) → e ≡ whole.Binary op a b → d ≡ a.value → weight (view d) < t
  left_lighter op a b is here = omega (arith, ap (λ x. weight (view x)) is, ap (λ x. weight (view x)) here, weight_some (view b.value))

  pub right_lighter : (op : BinaryOp) (a b : Box Expr Global) → e ≡ whole.Binary op a b → d ≡ b.value → weight (view d) < t
  right_lighter op a b is here = omega (arith, ap (λ x. weight (view x)) is, ap (λ x. weight (view x)) here, weight_some (view a.value))

  pub index_lighter : (first count : ℕ) (a : Box Expr Global) → e ≡ whole.Element first count a → d ≡ a.value → weight (view d) < t
  index_lighter first count a is here = omega (arith, ap (λ x. weight (view x)) is, ap (λ x. weight (view x)) here)
