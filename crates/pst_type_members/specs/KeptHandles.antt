-- How the handles of types are kept.
use Rattle.std.specs.Prelude.{◌≡◌, Bool, List, length, map, Option, Some, None, IfSome, if◌then◌else◌}
use Rattle.std.specs.Option.{option_or}
use Rattle.std.specs.HashMap.{get}
use Rattle.pst_ast.specs.declared.scope_declaration.Declaration.{Declaration}
use Rattle.pst_ast.specs.Sorts.{is_handle}
use Rattle.pst_type_rules.specs.Members.{those_that}
use Rattle.pst_type_members.specs.declared.key.ScopeKey.{ScopeKey}
use Rattle.pst_type_members.specs.declared.handles.HandleRow.{HandleRow}
use Rattle.pst_type_members.specs.declared.handles.HandleRows.{HandleRows}
use Rattle.pst_type_members.specs.Keyed.{members_at, place_of, same_key}

-- these are the handles among declarations
pub record IsHandleRow (ds : List Declaration) (row : HandleRow) : Type 0 where
  pub places : row.places ≡ map (λ d. d.name.place) (those_that is_handle ds)
  pub counted : row.count ≡ length (those_that is_handle ds)

-- each row that is kept has the handles that are declared in the scope of its key
abbrev pub AreHandleRows : List Declaration → HandleRows → Type 0
AreHandleRows ds h = (q : ScopeKey) → IfSome (get same_key h.rows q) (IsHandleRow (members_at ds (place_of q)))

-- what was kept, or else a row, where it belongs there
abbrev pub or_row : Option HandleRow → Bool → HandleRow → Option HandleRow
or_row kept here row = option_or kept (if here then Some row else None)
