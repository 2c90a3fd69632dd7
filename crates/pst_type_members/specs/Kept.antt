-- How members are kept.
use Rattle.std.specs.Prelude.{◌≡◌, List}
use Rattle.std.specs.HashMap.{get}
use Rattle.pst_ast.specs.declared.scope_declaration.Declaration.{Declaration}
use Rattle.pst_type_members.specs.declared.key.ScopeKey.{ScopeKey}
use Rattle.pst_type_members.specs.declared.scopes.ScopeRows.{ScopeRows}
use Rattle.pst_type_members.specs.declared.rows.Members.TheInside.{Inside}
use Rattle.pst_type_members.specs.Keyed.{members_at, place_of, row_in, same_key}
use Rattle.pst_type_members.specs.KeptHandles.{AreHandleRows}

-- each row has what is declared in the scope of its key
abbrev pub AreRows : List Declaration → ScopeRows → Type 0
AreRows ds rows = (q : ScopeKey) → row_in (get same_key rows.rows q) ≡ members_at ds (place_of q)

pub record HasRows (m : Inside) : Type 0 where
  pub rows : AreRows m.bases.now m.rows
  pub handles : AreHandleRows m.bases.now m.handles
