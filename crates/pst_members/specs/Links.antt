-- The declarations of each scope, from its last on.
use Rattle.std.specs.Prelude.{◌≡◌, ℕ, ◌+◌, ◌≤◌, List, [], ◌∷◌, ◌++◌, length, slice_get, take, Option, Some, None, if◌then◌else◌}
use Rattle.std.specs.Option.{option_map}
use Rattle.pst_base.specs.declared.table.NameId.{NameId}
use Rattle.pst_ast.specs.declared.scope_declaration.Declaration.{Declaration}
use Rattle.pst_ast.specs.declared.scope_declaration.Scope.{Scope}
use Rattle.pst_ast.specs.Lookups.{look_up}
use Rattle.pst_members.specs.declared.key.ScopeKey.{ScopeKey}
use Rattle.pst_members.specs.Keys.{scope_key, same_key}

-- how many declarations there are up to a position; 0 where it is none
abbrev pub up_to : Option ℕ → ℕ
up_to None = 0
up_to (Some i) = i + 1

-- a position is that of the last among the first declarations that stands in a scope, or is none where none does
pub record IsLast (ds : List Declaration) (scope : Scope) (n : ℕ) (at : Option ℕ) : Type 0 where
  pub within : up_to at ≤ n
  pub stands : (i : ℕ) → at ≡ Some i → option_map (λ d. d.scope) (slice_get ds i) ≡ Some scope
  pub last : (name : NameId) → look_up (take n ds) scope name ≡ look_up (take (up_to at) ds) scope name

-- the last declaration of each scope, and the one before each in its scope
pub record IsLinked (ds : List Declaration) (last : ScopeKey → Option ℕ) (before : List (Option ℕ)) : Type 0 where
  pub each : length before ≡ length ds
  pub lasts : (scope : Scope) → IsLast ds scope (length ds) (last (scope_key scope))
  pub earlier : (i : ℕ) (d : Declaration) (at : Option ℕ) → slice_get ds i ≡ Some d → slice_get before i ≡ Some at → IsLast ds d.scope i at

-- a declaration of a scope was added
pub record IsAdded (scope : Scope) (last : ScopeKey → Option ℕ) (before : List (Option ℕ)) (lasts : ScopeKey → Option ℕ) (more : List (Option ℕ)) : Type 0 where
  pub set : (key : ScopeKey) → lasts key ≡ (if same_key key (scope_key scope) then Some (length before) else last key)
  pub pushed : more ≡ before ++ last (scope_key scope) ∷ []
