-- Settling, with the steps noted.
use Rattle.std.specs.Prelude.{◌≡◌, ℕ, ◌<◌, ◌≤◌, ◌⊎◌, List, [], ◌∷◌, ◌++◌, length, reverse, Bool, true, false, Option, Some, None, Result, Ok, Err}
use Rattle.pst_base.specs.declared.memory.NoMemory.{NoMemory}
use Rattle.pst_expr.specs.declared.ranges.Span.{Span}
use Rattle.pst_expr.specs.Tree.{Expression}
use Rattle.pst_narrow.specs.declared.trail.Former.{Former}
use Rattle.pst_narrow.specs.Local.{IsLocallyUnmet}
use Rattle.pst_narrow.specs.Watch.{IsNumbered}
use Rattle.pst_reasons.specs.declared.step.Cause.TheVariants as cause
use Rattle.pst_reasons.specs.declared.step.Step.{Step}
use Rattle.pst_reasons.specs.declared.step.Given.{Given}
use Rattle.pst_reasons.specs.Explained.{AreExplained}

-- true where no constraint was found that can't hold
abbrev pub fits : Result (Option ℕ) NoMemory → Result Bool NoMemory
fits (Ok None) = Ok true
fits (Ok (Some c)) = Ok false
fits (Err e) = Err e

-- where the steps explained the trail before, they do so after
abbrev pub KeepExplained : List Expression → List Step → List Step → List Former → List Former → List (Option Span) → List (Option Span) → Type 0
KeepExplained es old_steps new_steps old_trail new_trail old new =
    (given : List Given) → AreExplained es given (reverse old_steps) old_trail old → AreExplained es given (reverse new_steps) new_trail new

-- steps were only appended
pub record IsAppended (old new : List Step) : Type 0 where
  pub more : List Step
  pub is : new ≡ old ++ more

-- no values within the bounds of its variables meet the constraint of a number
abbrev pub IsUnmetAt : List Expression → ℕ → List (Option Span) → Type 0
IsUnmetAt es c bounds = (e : Expression) × IsNumbered es c e × IsLocallyUnmet e bounds

-- what a constraint moved is noted, where it moved anything
abbrev pub IsNoted : ℕ → ℕ → List Former → List Step → List Step → Type 0
IsNoted c mark trail old new =
    ((mark < length trail) × (new ≡ old ++ record { cause = cause.Constraint c; mark = mark } ∷ [])) ⊎ ((length trail ≤ mark) × (new ≡ old))
