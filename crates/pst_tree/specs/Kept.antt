-- How the members of types are kept.
use Rattle.std.specs.Prelude.{◌≡◌, List}
use Rattle.std.specs.HashMap.{get}
use Rattle.pst_ast.specs.declared.scope_declaration.Declaration.{Declaration}
use Rattle.pst_tree.specs.declared.key.PlaceKey.{PlaceKey}
use Rattle.pst_tree.specs.declared.rows.Member.{Member}
use Rattle.pst_tree.specs.declared.rows.Rows.{Rows}
use Rattle.pst_tree.specs.Members.{members_at, place_of, row_in, same_key}

-- each row has the members that the type of its key declares
abbrev pub AreRows : Member → List Declaration → Rows → Type 0
AreRows by ds rows = (q : PlaceKey) → row_in (get same_key rows.rows q) ≡ members_at by ds (place_of q)
