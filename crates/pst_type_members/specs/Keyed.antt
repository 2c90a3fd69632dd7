-- What is declared in a scope, by its place.
use Rattle.std.specs.Prelude.{Vec, Bool, nat_eq, ◌&&◌, List, [], Option, Some, None}
use Rattle.std.specs.List.{filter}
use Rattle.std.specs.Option.{option_map_or}
use Rattle.std.specs.declared.alloc.Global.{Global}
use Rattle.pst_base.specs.declared.position.Place.{Place}
use Rattle.pst_ast.specs.declared.scope_declaration.Declaration.{Declaration}
use Rattle.pst_ast.specs.declared.scope_declaration.Scope.{Scope}
use Rattle.pst_ast.specs.declared.scope_declaration.Scope.TheVariants.{Files, Part}
use Rattle.pst_ast.specs.Sorts.{same_scope}
use Rattle.pst_type_members.specs.declared.key.ScopeKey.{ScopeKey}

-- what is declared in the scope of a place
abbrev pub members_at : List Declaration → Place → List Declaration
members_at ds place = filter (λ m. same_scope m.scope (Part place)) ds

abbrev pub scope_key : Place → ScopeKey
scope_key place = record { file = place.file; line = place.line; column = place.column }

abbrev pub place_of : ScopeKey → Place
place_of key = record { file = key.file; line = key.line; column = key.column }

-- whether two keys are one
abbrev pub same_key : ScopeKey → ScopeKey → Bool
same_key a b = nat_eq a.file b.file && (nat_eq a.line b.line && nat_eq a.column b.column)

abbrev pub place_in : Scope → Option Place
place_in Files = None
place_in (Part place) = Some place

-- the row of a key, which has none where nothing is declared
abbrev pub row_in : Option (Vec Declaration Global) → List Declaration
row_in row = option_map_or (λ r. r.items) row []
