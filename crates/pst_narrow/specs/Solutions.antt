-- Solutions: values of variables under which every constraint holds.
use Rattle.std.specs.Prelude.{◌≢◌, ℤ, pos, List, All, Option, Some, None}
use Rattle.pst_expr.specs.Tree.{Expression}
use Rattle.pst_expr.specs.Value.{value}

-- a value that is there and isn't 0
abbrev pub IsTruth : Option ℤ → Type 0
IsTruth None = ⊥
IsTruth (Some v) = v ≢ pos 0

-- a constraint holds under values of the variables where its value is there and isn't 0
abbrev pub IsMet : Expression → List (Option ℤ) → Type 0
IsMet e values = IsTruth (value e values)

-- every constraint holds
abbrev pub AreMet : List Expression → List (Option ℤ) → Type 0
AreMet constraints values = All (λ e. IsMet e values) constraints
