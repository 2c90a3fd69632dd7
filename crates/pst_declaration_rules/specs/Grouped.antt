-- Declarations by the place of what they stand in.
use Rattle.std.specs.Prelude.{Bool, false, nat_eq, ◌&&◌, List, [], Option, Some, None, if◌then◌else◌}
use Rattle.std.specs.Option.{option_map, option_map_or}
use Rattle.std.specs.Global.{Vec}
use Rattle.pst_base.specs.declared.position.Place.{Place}
use Rattle.pst_ast.specs.declared.scope_declaration.Declaration.{Declaration}
use Rattle.pst_ast.specs.declared.scope_declaration.Scope.{Scope}
use Rattle.pst_ast.specs.declared.scope_declaration.Scope.TheVariants.{Files, Part}
use Rattle.pst_type_rules.specs.Limits.{is_local}
use Rattle.pst_declaration_rules.specs.declared.grouped.By.{By}
use Rattle.pst_declaration_rules.specs.declared.grouped.By.TheVariants.{OwnScope, OwnText}
use Rattle.pst_declaration_rules.specs.declared.grouped.PlaceKey.{PlaceKey}
use Rattle.pst_declaration_rules.specs.declared.member.Member.{Member}

abbrev pub place_key : Place → PlaceKey
place_key place = record { file = place.file; line = place.line; column = place.column }

-- whether two keys are one
abbrev pub same_key : PlaceKey → PlaceKey → Bool
same_key a b = nat_eq a.file b.file && (nat_eq a.line b.line && nat_eq a.column b.column)

abbrev pub key_of_scope : Scope → Option PlaceKey
key_of_scope Files = None
key_of_scope (Part place) = Some (place_key place)

abbrev pub key_of_text : Declaration → Option PlaceKey
key_of_text d = if is_local d.sort then option_map place_key d.inside else None

abbrev pub key_of : By → Declaration → Option PlaceKey
key_of OwnScope d = key_of_scope d.scope
key_of OwnText d = key_of_text d

abbrev pub has_key : By → PlaceKey → Member → Bool
has_key by q m = option_map_or (same_key q) (key_of by m.declaration) false

-- those of a group, where there is one
abbrev pub items_at : Option (Vec Member) → List Member
items_at None = []
items_at (Some group) = group.items
