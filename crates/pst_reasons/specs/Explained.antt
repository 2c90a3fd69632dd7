-- What moved the bounds along a trail.
use Rattle.std.specs.Prelude.{◌≡◌, ◌≤◌, List, [], ◌∷◌, length, take, drop, All, Option, Some, slice_get}
use Rattle.pst_expr.specs.declared.ranges.Span.{Span}
use Rattle.pst_expr.specs.Tree.{Expression}
use Rattle.pst_domain.specs.Bounds.{bound_of}
use Rattle.pst_narrow.specs.declared.trail.Former.{Former}
use Rattle.pst_narrow.specs.Trail.{put_back}
use Rattle.pst_narrow.specs.Local.{IsLocal}
use Rattle.pst_narrow.specs.Watch.{IsNumbered}
use Rattle.pst_reasons.specs.declared.step.Cause.{Cause}
use Rattle.pst_reasons.specs.declared.step.Cause.TheVariants as cause
use Rattle.pst_reasons.specs.declared.step.Step.{Step}
use Rattle.pst_reasons.specs.declared.step.Given.{Given}

-- a constraint moves bounds by those of its own variables; else it was one variable, which was given its span
abbrev pub IsCausedBy : List Expression → List Given → Cause → List Former → List (Option Span) → List (Option Span) → Type 0
IsCausedBy es given (cause.Constraint c) changes old new = (e : Expression) × IsNumbered es c e × IsLocal e old new
IsCausedBy es given (cause.Given k) changes old new = (g : Given) × (slice_get given k ≡ Some g) × All (λ f. f.variable ≡ g.variable) changes × (bound_of new g.variable ≡ Some g.span)

pub record IsExplainedStep (es : List Expression) (given : List Given) (s : Step) (t : List Former) (b : List (Option Span)) : Type 0 where
  pub room : s.mark ≤ length t
  pub caused : IsCausedBy es given s.cause (drop s.mark t) (put_back (drop s.mark t) b) b

-- each step of a trail, the latest first
abbrev pub AreExplained : List Expression → List Given → List Step → List Former → List (Option Span) → Type 0
AreExplained es given [] t b = t ≡ []
AreExplained es given (s ∷ older) t b = IsExplainedStep es given s t b × AreExplained es given older (take s.mark t) (put_back (drop s.mark t) b)
