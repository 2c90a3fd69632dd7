-- Keys of look-ups.
use Rattle.std.specs.Prelude.{true, false, Option, Some, None, if◌then◌else◌}
use Rattle.pst_base.specs.declared.position.Place.{Place}
use Rattle.pst_base.specs.declared.table.NameId.{NameId}
use Rattle.pst_ast.specs.declared.scope_declaration.Declaration.{Declaration}
use Rattle.pst_ast.specs.declared.scope_declaration.Scope.{Scope}
use Rattle.pst_ast.specs.declared.scope_declaration.Scope.TheVariants.{Files, Part}
use Rattle.pst_ast.specs.declared.scope_declaration.Sort.{Sort}
use Rattle.pst_ast.specs.declared.scope_declaration.Sort.TheVariants as sort
use Rattle.pst_ast.specs.Sorts.{is_field}
use Rattle.pst_index.specs.declared.key.Key.{Key}
use Rattle.pst_index.specs.declared.key.By.{By}
use Rattle.pst_index.specs.declared.key.By.TheVariants as by

abbrev pub place_key : Place → Key
place_key place = record { part = true; file = place.file; line = place.line; column = place.column; name = 0 }

abbrev pub name_key : Scope → NameId → Key
name_key Files name = record { part = false; file = 0; line = 0; column = 0; name = name.0 }
name_key (Part place) name = record { part = true; file = place.file; line = place.line; column = place.column; name = name.0 }

abbrev pub item_key : Sort → NameId → Option Key
item_key (sort.Item level) name = Some (name_key level name)
item_key _ name = None

-- the key by which a declaration is found
abbrev pub key_of : By → Declaration → Option Key
key_of by.Name d = Some (name_key d.scope d.name.id)
key_of by.Place d = Some (place_key d.name.place)
key_of by.Item d = item_key d.sort d.name.id
key_of by.Field d = if is_field d.sort then Some (name_key d.scope d.name.id) else None
