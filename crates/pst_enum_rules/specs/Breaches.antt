-- The breaches of the rules of types by enums.
use Rattle.std.specs.Prelude.{ℕ, List}
use Rattle.std.specs.List.{Contains}
use Rattle.pst_ast.specs.DeclarationTree.{UnitTree}
use Rattle.pst_ast.specs.declared.referent.Finding.{Finding}
use Rattle.pst_type_rules.specs.Enums.{DeclaredEnum, enums}
use Rattle.pst_type_rules.specs.TypeRules.{EnumBreaks}

-- an enum breaks a rule
abbrev pub IsEnumBreach : List UnitTree → List (List ℕ) → Finding → Type 0
IsEnumBreach units names f = (e : DeclaredEnum) × Contains (enums units) e × EnumBreaks units names e f.place f.rule
