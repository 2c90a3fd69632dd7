-- What is sure of an expression within bounds.
use Rattle.std.specs.Prelude.{◌≢◌, ℤ, pos, List, Option, IfSome}
use Rattle.pst_expr.specs.declared.ranges.Span.{Span}
use Rattle.pst_expr.specs.Tree.{Expression}
use Rattle.pst_expr.specs.Value.{value}
use Rattle.pst_domain.specs.Bounds.{AreWithin}
use Rattle.pst_narrow.specs.Solutions.{IsMet}
use Rattle.pst_narrow.specs.Narrowing.{GivesIn}

-- under all values within the bounds it is true, where it has a value
abbrev pub IsSurelyTrue : Expression → List (Option Span) → Type 0
IsSurelyTrue e bounds = (values : List (Option ℤ)) → AreWithin bounds values → IfSome (value e values) (λ v. v ≢ pos 0)

-- where it is true, under values within the bounds, its value lies in a span
abbrev pub GivesTruthIn : Expression → Span → List (Option Span) → Type 0
GivesTruthIn e span bounds = (values : List (Option ℤ)) → AreWithin bounds values → IsMet e values → GivesIn e span values
