use Rattle.std.proofs.Common.{ℕ, ◌<◌, get_or, Option}
use Rattle.std.specs.Option.{IfSome}
use Rattle.std.specs.Prelude.{◌≤ℤ◌}
use Rattle.pst_expr.specs.declared.ranges.Span.{Span}
use Rattle.pst_field_values.proofs.values.are_upright.Given as goal

abbrev pub invariant-loop-bound : goal.invariant-loop-bound
invariant-loop-bound l = (k : ℕ) (d : Option Span) → k < l.bound-index → IfSome (get_or l.bounds k d) (λ s. s.low ≤ℤ s.high)
