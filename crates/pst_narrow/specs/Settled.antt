-- Constraints that are looked at again where a bound of one of their variables moved.
use Rattle.std.specs.Prelude.{◌≡◌, ℕ, ◌⊎◌, List, length, drop, All, false, Option, Contains}
use Rattle.pst_expr.specs.declared.ranges.Span.{Span}
use Rattle.pst_expr.specs.Tree.{Expression}
use Rattle.pst_domain.specs.Interval.{interval, is_refused}
use Rattle.pst_narrow.specs.declared.trail.Former.{Former}
use Rattle.pst_narrow.specs.Mentions.{Mentions}
use Rattle.pst_narrow.specs.Watch.{IsNumbered}

-- no change is of a variable of the constraint
abbrev pub IsQuiet : Expression → List Former → Type 0
IsQuiet e changes = All (λ former. Mentions e former.variable → ⊥) changes

abbrev pub IsUnrefused : Expression → List (Option Span) → Type 0
IsUnrefused e bounds = is_refused (interval e bounds) ≡ false

-- each constraint without a variable that was changed isn't refused
abbrev pub QuietAreOpen : List Expression → List Former → List (Option Span) → Type 0
QuietAreOpen constraints changes bounds = (c : ℕ) (e : Expression) → IsNumbered constraints c e → IsQuiet e changes → IsUnrefused e bounds

-- constraints with a property of their numbers aren't refused, where since an earlier trail none of their variables was changed
abbrev pub AreLookedAt : (ℕ → Expression → Type 0) → List Expression → List Former → List Former → List (Option Span) → Type 0
AreLookedAt P constraints old_trail new_trail bounds =
    (c : ℕ) (e : Expression) → IsNumbered constraints c e → P c e → IsQuiet e (drop (length old_trail) new_trail) → IsUnrefused e bounds

-- one of a row, or one that wasn't refused before
abbrev pub IsOfRow : List ℕ → List (Option Span) → ℕ → Expression → Type 0
IsOfRow row bounds c e = Contains row c ⊎ IsUnrefused e bounds
