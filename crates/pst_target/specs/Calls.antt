-- Lists of answered calls.
use Rattle.std.specs.Prelude.{ℕ, ℤ, List, [], ◌∷◌, ◌++◌, Option}
use Rattle.std.specs.Option.{option_map}
use Rattle.pst_target.specs.declared.call.Call.{Call}

-- the list, where it is told, with this call last
abbrev pub with_call : Option (List Call) → ℕ → List ℤ → ℤ → Option (List Call)
with_call calls function arguments answer =
    option_map (λ before. before ++ record { function = function; arguments = arguments; answer = answer } ∷ []) calls
