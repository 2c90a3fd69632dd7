-- The breaches of the rules of types by uses.
use Rattle.std.specs.Prelude.{ℕ, List}
use Rattle.std.specs.List.{Contains}
use Rattle.pst_ast.specs.DeclarationTree.{UnitTree}
use Rattle.pst_ast.specs.declared.referent.Finding.{Finding}
use Rattle.pst_ast.specs.Uses.{Use, uses}
use Rattle.pst_type_rules.specs.TypeRules.{UseBreaks}

-- some use breaks it
abbrev pub IsUseBreach : List UnitTree → List (List ℕ) → Finding → Type 0
IsUseBreach units names f = (u : Use) × Contains (uses units) u × UseBreaks units names u f.place f.rule
