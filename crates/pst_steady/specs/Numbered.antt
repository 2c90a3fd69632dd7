-- The numbers of actions and of their bases among the declarations.
use Rattle.std.specs.Prelude.{◌≡◌, ℕ, List, length, Option, Some, None, IsTrue, slice_get}
use Rattle.std.specs.Option.{option_and_then}
use Rattle.pst_ast.specs.declared.scope_declaration.Declaration.{Declaration}
use Rattle.pst_ast.specs.Lookups.{base_of}
use Rattle.pst_ast.specs.Sorts.{is_action}

-- the action has that number; with none it isn't among the declarations
abbrev pub IsNumber : List Declaration → Declaration → Option ℕ → Type 0
IsNumber ds d None = (i : ℕ) → slice_get ds i ≡ Some d → IsTrue (is_action d.sort) → ⊥
IsNumber ds d (Some i) = slice_get ds i ≡ Some d

-- what has a number, where there is one
abbrev pub numbered : List Declaration → Option ℕ → Option Declaration
numbered ds number = option_and_then (slice_get ds) number

-- each declaration has the number of its base
pub record AreBases (ds : List Declaration) (bases : List (Option ℕ)) : Type 0 where
  pub long : length bases ≡ length ds
  pub each : (i : ℕ) (d : Declaration) (base : Option ℕ) → slice_get ds i ≡ Some d → slice_get bases i ≡ Some base → numbered ds base ≡ base_of ds d

-- the first n of them do
pub record AreBasesSoFar (ds : List Declaration) (n : ℕ) (bases : List (Option ℕ)) : Type 0 where
  pub long : length bases ≡ n
  pub each : (i : ℕ) (d : Declaration) (base : Option ℕ) → slice_get ds i ≡ Some d → slice_get bases i ≡ Some base → numbered ds base ≡ base_of ds d
