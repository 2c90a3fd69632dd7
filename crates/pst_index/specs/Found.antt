-- What a key finds.
use Rattle.std.specs.Prelude.{Bool, false, not, nat_eq, ◌&&◌, Option, Some, None, if◌then◌else◌}
use Rattle.std.specs.Bool.{beq}
use Rattle.std.specs.Option.{option_or, option_map_or}
use Rattle.pst_base.specs.declared.table.NameId.{NameId}
use Rattle.pst_ast.specs.declared.scope_declaration.Declaration.{Declaration}
use Rattle.pst_ast.specs.declared.scope_declaration.Scope.{Scope}
use Rattle.pst_ast.specs.Sorts.{same_name, same_scope}
use Rattle.pst_ast.specs.Lookups.{is_item_at}
use Rattle.pst_index.specs.declared.key.Key.{Key}
use Rattle.pst_index.specs.declared.key.By.{By}
use Rattle.pst_index.specs.declared.key.By.TheVariants as by
use Rattle.pst_index.specs.Keys.{key_of}

-- whether two keys are one
abbrev pub same_key : Key → Key → Bool
same_key a b = beq a.part b.part && (nat_eq a.file b.file && (nat_eq a.line b.line && (nat_eq a.column b.column && nat_eq a.name b.name)))

-- whether a declaration is found by the key
abbrev pub has_key : By → Key → Declaration → Bool
has_key by key d = option_map_or (same_key key) (key_of by d) false

-- what was found, or else the next, where it is found too
abbrev pub or_first : Option Declaration → Bool → Declaration → Option Declaration
or_first found next d = option_or found (if next then Some d else None)

-- whether there is a first, and it stands in another scope
abbrev pub is_beside : Option Declaration → Declaration → Bool
is_beside first d = option_map_or (λ f. not (same_scope f.scope d.scope)) first false

-- whether an item of that key stands beside the first
abbrev pub is_other_item : Option Declaration → Key → Declaration → Bool
is_other_item first key d = has_key by.Item key d && is_beside first d

-- whether it is an item of that name, in an enum of that level other than that one
abbrev pub is_item_beside : Scope → NameId → Scope → Declaration → Bool
is_item_beside level name enum d = is_item_at level d.sort && (same_name d.name.id name && not (same_scope d.scope enum))
