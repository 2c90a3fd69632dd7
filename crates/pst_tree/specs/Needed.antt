-- The references or claims that a type declares itself.
use Rattle.std.specs.Prelude.{List, Bool}
use Rattle.pst_ast.specs.declared.scope_declaration.Declaration.{Declaration}
use Rattle.pst_ast.specs.declared.scope_declaration.Sort.{Sort}
use Rattle.pst_type_rules.specs.Members.{those_that, own_members}

abbrev pub needs_within : (Sort → Bool) → List Declaration → Declaration → List Declaration
needs_within test ds type = those_that test (own_members ds type)
