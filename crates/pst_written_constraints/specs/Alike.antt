-- Expressions that come to the same.
use Rattle.std.specs.Prelude.{◌≡◌, ℕ, ℤ, List, Option}
use Rattle.pst_expr.specs.declared.ranges.Span.{Span}
use Rattle.pst_expr.specs.Tree.{Expression}
use Rattle.pst_expr.specs.Value.{value}
use Rattle.pst_domain.specs.Bounds.{HasVariablesBelow}
use Rattle.pst_domain.specs.Interval.{interval}

-- under any values and bounds of variables two expressions have the same value and the same span, and the second one has no further variables
pub record AreAlike (e f : Expression) : Type 0 where
  pub values : (values : List (Option ℤ)) → value e values ≡ value f values
  pub spans : (bounds : List (Option Span)) → interval e bounds ≡ interval f bounds
  pub variables : (n : ℕ) → HasVariablesBelow n e → HasVariablesBelow n f
