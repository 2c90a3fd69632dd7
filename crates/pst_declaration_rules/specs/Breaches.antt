-- The breaches of the rules of types by declarations.
use Rattle.std.specs.Prelude.{ℕ, List}
use Rattle.std.specs.List.{Contains}
use Rattle.pst_ast.specs.DeclarationTree.{UnitTree}
use Rattle.pst_ast.specs.declared.scope_declaration.Declaration.{Declaration}
use Rattle.pst_ast.specs.declared.referent.Finding.{Finding}
use Rattle.pst_ast.specs.Declarations.{declarations}
use Rattle.pst_type_rules.specs.TypeRules.{DeclarationBreaks}

-- a declaration breaks a rule
abbrev pub IsDeclarationBreach : List UnitTree → List (List ℕ) → Finding → Type 0
IsDeclarationBreach units names f = (d : Declaration) × Contains (declarations units) d × DeclarationBreaks units names d f.place f.rule
