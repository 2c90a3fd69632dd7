-- The pools of the nearest binds, by their rows.
use Rattle.std.specs.Prelude.{ℕ, List, [], ◌++◌, map}
use Rattle.std.specs.Option.{option_map_or}
use Rattle.std.specs.HashMap.{get}
use Rattle.pst_base.specs.declared.position.Place.{Place}
use Rattle.pst_base.specs.declared.table.NameId.{NameId}
use Rattle.pst_ast.specs.declared.scope_declaration.Declaration.{Declaration}
use Rattle.pst_ast.specs.Lookups.{type_of}
use Rattle.pst_bound_pools.specs.declared.explicit_rows.ExplicitRows.{ExplicitRows}
use Rattle.pst_bound_pools.specs.declared.default_rows.DefaultRows.{DefaultRows}
use Rattle.pst_bound_pools.specs.BindRows.{numbers_in, same_target, same_object, target_key, object_key}
use Rattle.pst_bound_pools.specs.Serving.{first_filled}

abbrev pub explicit_row : ExplicitRows → ℕ → NameId → NameId → ℕ → List ℕ
explicit_row rows to action need from = numbers_in (get same_target rows.rows (target_key from to action need))

abbrev pub default_row : DefaultRows → Place → ℕ → List ℕ
default_row rows place from = numbers_in (get same_object rows.rows (object_key from place))

-- those of the object type of a reference or claim
abbrev pub default_row_of : List Declaration → DefaultRows → Declaration → ℕ → List ℕ
default_row_of ds rows need from = option_map_or (λ t. default_row rows t.name.place from) (type_of ds need) []

-- the candidates of a reference or claim of an action type in an instance, which stands first among those above it
abbrev pub candidates_by : List Declaration → ExplicitRows → DefaultRows → List ℕ → ℕ → Declaration → Declaration → List ℕ
candidates_by ds explicit defaults above instance action need =
    first_filled (map (explicit_row explicit instance action.name.id need.name.id) above ++ map (default_row_of ds defaults need) above)
