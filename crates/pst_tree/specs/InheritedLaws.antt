-- Laws of the definitions.
use Rattle.std.specs.Prelude.{◌≡◌, List}
use Rattle.std.specs.List.{Contains}
use Rattle.pst_ast.specs.declared.scope_declaration.Declaration.{Declaration}
use Rattle.pst_type_rules.specs.Members.{AreMembers}
use Rattle.pst_tree.specs.Bases.{members}

-- where a declared type has a list of members by the rules of types, it is the one that is found here
abbrev pub MembersAreFound : Type 0
MembersAreFound = (ds : List Declaration) (d : Declaration) (list : List Declaration) → Contains ds d → AreMembers ds d list → list ≡ members ds d
