-- Changes of bounds, and taking them back.
use Rattle.std.specs.Prelude.{◌≡◌, ℕ, ◌<◌, List, [], ◌∷◌, ◌++◌, length, All, Option, slice_set}
use Rattle.pst_expr.specs.declared.ranges.Span.{Span}
use Rattle.pst_narrow.specs.declared.trail.Former.{Former}

-- the bounds after changes are taken back, the last one first
abbrev pub put_back : List Former → List (Option Span) → List (Option Span)
put_back [] bounds = bounds
put_back (former ∷ more) bounds = slice_set (put_back more bounds) former.variable former.bound

-- the variables of changes are below n
abbrev pub AreBelow : ℕ → List Former → Type 0
AreBelow n formers = All (λ former. former.variable < n) formers

-- changes were only appended, and taking these back gives the old bounds
pub record Extends (old_trail new_trail : List Former) (old new : List (Option Span)) : Type 0 where
  pub more : List Former
  pub appended : new_trail ≡ old_trail ++ more
  pub below : AreBelow (length old) more
  pub back : put_back more new ≡ old
