-- Whether the variables of an expression are few says one thing at most.
use Rattle.std.specs.Prelude.{ℕ}
use Rattle.std.specs.Coded.{×_prop, Π_prop, Unit-prop, le_prop}
use Rattle.pst_expr.specs.Tree.{Expression, Constant, Variable, Unary, Binary, Element}
use Rattle.pst_domain.specs.Bounds.{HasVariablesBelow}

pub below-prop : (n : ℕ) (e : Expression) → IsProp (HasVariablesBelow n e)
below-prop n (Constant _) = Unit-prop
below-prop n (Variable i) = le_prop
below-prop n (Unary op e) = below-prop n e
below-prop n (Binary op a b) = ×_prop (below-prop n a) (below-prop n b)
below-prop n (Element first count e) = ×_prop (Π_prop (λ i. Π_prop (λ _. le_prop))) (below-prop n e)
