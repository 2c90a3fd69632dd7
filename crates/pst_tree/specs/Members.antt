-- The members of one sort that types declare in their own scopes.
use Rattle.std.specs.Prelude.{Vec, Bool, nat_eq, ◌&&◌, List, [], Option, Some, None, if◌then◌else◌}
use Rattle.std.specs.List.{filter}
use Rattle.std.specs.Option.{option_map_or}
use Rattle.std.specs.declared.alloc.Global.{Global}
use Rattle.pst_base.specs.declared.position.Place.{Place}
use Rattle.pst_ast.specs.declared.scope_declaration.Declaration.{Declaration}
use Rattle.pst_ast.specs.declared.scope_declaration.Scope.{Scope}
use Rattle.pst_ast.specs.declared.scope_declaration.Scope.TheVariants.{Files, Part}
use Rattle.pst_ast.specs.declared.scope_declaration.Sort.{Sort}
use Rattle.pst_ast.specs.Sorts.{is_instance, is_pool, is_need, same_scope}
use Rattle.pst_tree.specs.declared.key.PlaceKey.{PlaceKey}
use Rattle.pst_tree.specs.declared.rows.Member.{Member}
use Rattle.pst_tree.specs.declared.rows.Member.TheVariants as member

abbrev pub is_member : Member → Sort → Bool
is_member member.Instance s = is_instance s
is_member member.Pool s = is_pool s
is_member member.Need s = is_need s

-- what the type whose name stands at a place declares
abbrev pub members_at : Member → List Declaration → Place → List Declaration
members_at by ds place = filter (λ d. is_member by d.sort && same_scope d.scope (Part place)) ds

-- ---- keys

abbrev pub place_key : Place → PlaceKey
place_key place = record { file = place.file; line = place.line; column = place.column }

abbrev pub place_of : PlaceKey → Place
place_of key = record { file = key.file; line = key.line; column = key.column }

-- whether two keys are one
abbrev pub same_key : PlaceKey → PlaceKey → Bool
same_key a b = nat_eq a.file b.file && (nat_eq a.line b.line && nat_eq a.column b.column)

abbrev pub place_in : Scope → Option Place
place_in Files = None
place_in (Part place) = Some place

-- the place in whose scope a member of that sort is declared
abbrev pub member_scope : Member → Declaration → Option Place
member_scope by d = if is_member by d.sort then place_in d.scope else None

-- the row of a key, which has none where nothing is declared
abbrev pub row_in : Option (Vec Declaration Global) → List Declaration
row_in row = option_map_or (λ r. r.items) row []
