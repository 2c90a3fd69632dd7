-- Operands of which the values are wanted.
use Rattle.std.proofs.Common.{◌≡◌, ℤ, List, true, Option, Some, None, option_and_then, refl, subst}
use Rattle.pst_expr.specs.declared.ranges.Span.{Span}
use Rattle.pst_expr.specs.Spans.{IsInSpan}
use Rattle.pst_expr.specs.declared.tree.UnaryOp.{UnaryOp}
use Rattle.pst_expr.specs.declared.tree.BinaryOp.{BinaryOp}
use Rattle.pst_expr.specs.declared.tree.BinaryOp.TheVariants.{Mul, Div, Rem, Add, Sub, Shl, Shr, Less, LessOrEqual, Greater, GreaterOrEqual, Equal, NotEqual, BitAnd, BitXor, BitOr, And, Or, Implies}
use Rattle.pst_expr.specs.Tree.{Expression}
use Rattle.pst_expr.specs.Value.{value, unary_value, binary_value}
use Rattle.pst_domain.specs.Bounds.{Holds}
use Rattle.pst_domain.specs.Laws.{HoldsValues}
use Rattle.pst_operands.specs.declared.operands.Operands.{Operands}
use Rattle.pst_operands.specs.Keeps.{KeepsOperand}
use Rattle.pst_operands.specs.Operands.{KeepOperands, applied}
use Rattle.pst_narrow.specs.Narrowing.{IsIn}
use Rattle.pst_narrow.specs.Operands.{needs_both, GiveOperands, GivesOperand}

nothing_left : (op : BinaryOp) (b : Option ℤ) → binary_value op None b ≡ None
nothing_left Mul b = refl
nothing_left Div b = refl
nothing_left Rem b = refl
nothing_left Add b = refl
nothing_left Sub b = refl
nothing_left Shl b = refl
nothing_left Shr b = refl
nothing_left Less b = refl
nothing_left LessOrEqual b = refl
nothing_left Greater b = refl
nothing_left GreaterOrEqual b = refl
nothing_left Equal b = refl
nothing_left NotEqual b = refl
nothing_left BitAnd b = refl
nothing_left BitXor b = refl
nothing_left BitOr b = refl
nothing_left And b = refl
nothing_left Or b = refl
nothing_left Implies b = refl

nothing_right : (op : BinaryOp) (x : ℤ) → needs_both op ≡ true → binary_value op (Some x) None ≡ None
nothing_right Mul x e = refl
nothing_right Div x e = refl
nothing_right Rem x e = refl
nothing_right Add x e = refl
nothing_right Sub x e = refl
nothing_right Shl x e = refl
nothing_right Shr x e = refl
nothing_right Less x e = refl
nothing_right LessOrEqual x e = refl
nothing_right Greater x e = refl
nothing_right GreaterOrEqual x e = refl
nothing_right Equal x e = refl
nothing_right NotEqual x e = refl
nothing_right BitAnd x e = refl
nothing_right BitXor x e = refl
nothing_right BitOr x e = refl
nothing_right And x e = absurd cc
nothing_right Or x e = absurd cc
nothing_right Implies x e = absurd cc

-- a value that is wanted
there : (w : Span) (v : Option ℤ) → IsIn w v → (z : ℤ) × (v ≡ Some z) × IsInSpan z w
there w None h = absurd h
there w (Some z) h = (z, refl, h)

module _ (op : BinaryOp) (s t w : Span) (new : Operands) (strict : needs_both op ≡ true) (keeps : KeepOperands (applied op) (record { left = s; right = t }) w new) where
  of_values : (a b : Option ℤ) → Holds (Some s) a → Holds (Some t) b → IsIn w (binary_value op a b) → IsIn new.left a × IsIn new.right b
  of_values None b h k given = absurd (subst (IsIn w) (nothing_left op b) given)
  of_values (Some x) None h k given = absurd (subst (IsIn w) (nothing_right op x strict) given)
  of_values (Some x) (Some y) h k given =
      let found = there w (binary_value op (Some x) (Some y)) given in
      (keeps.left x y found.0 h k found.2 found.1, keeps.right x y found.0 h k found.2 found.1)

pub operands_give : (op : BinaryOp) (p q : Expression) (bounds : List (Option Span)) (s t w : Span) (new : Operands) → needs_both op ≡ true → HoldsValues (Some s) p bounds → HoldsValues (Some t) q bounds → KeepOperands (applied op) (record { left = s; right = t }) w new → GiveOperands op p q w (record { left = new.left; right = new.right }) bounds
operands_give op p q bounds s t w new strict left right keeps values within given =
    of_values op s t w new strict keeps (value p values) (value q values) (left values within) (right values within) given

of_value : (op : UnaryOp) (s w new : Span) → KeepsOperand (unary_value op) s w new → (a : Option ℤ) → Holds (Some s) a → IsIn w (option_and_then (unary_value op) a) → IsIn new a
of_value op s w new keeps None h given = absurd given
of_value op s w new keeps (Some x) h given = let found = there w (unary_value op x) given in keeps x found.0 h found.2 found.1

pub operand_gives : (op : UnaryOp) (p : Expression) (bounds : List (Option Span)) (s w new : Span) → HoldsValues (Some s) p bounds → KeepsOperand (unary_value op) s w new → GivesOperand op p w new bounds
operand_gives op p bounds s w new sound keeps values within given = of_value op s w new keeps (value p values) (sound values within) given
