-- Laws of the definitions.
use Rattle.std.specs.Prelude.{ℕ, ℤ, List, map, Option}
use Rattle.pst_base.specs.declared.position.Place.{Place}
use Rattle.pst_ast.specs.SharedTree.{PlainTree, TypeTree}
use Rattle.pst_ast.specs.ActivityTree.{ArmLabelTree}
use Rattle.pst_ast.specs.DeclarationTree.{UnitTree}
use Rattle.pst_ast.specs.Declarations.{declarations}
use Rattle.pst_ast.specs.declared.environment.Environment.{Environment}
use Rattle.pst_ast.specs.declared.referent.Finding.{Finding}
use Rattle.pst_ast.specs.Uses.{Use, HasPlain, HasType, Arms}
use Rattle.pst_type_rules.specs.Enums.{enums}
use Rattle.pst_type_rules.specs.TypeRules.{UseBreaks}
use Rattle.pst_name_rules.specs.Leasts.{IsLeastOf}
use Rattle.pst_evaluate.specs.Settled.{AreItemValues}
use Rattle.pst_enum_values.specs.Gathered.{enum_places}
use Rattle.pst_range_rules.specs.Found.{arms_found, plain_found, type_found}

-- a use breaks the rule at the place
abbrev pub IsBrokenBy : List UnitTree → List (List ℕ) → Use → Finding → Type 0
IsBrokenBy units names u f = UseBreaks units names u f.place f.rule

-- what is found at a plain type is the first of what it breaks
abbrev pub PlainTypesAreJudged : Type 0
PlainTypesAreJudged =
    (units : List UnitTree) (names : List (List ℕ)) (known : Place → Option ℤ) (at : Environment) (plain : PlainTree)
    → AreItemValues units names known → IsLeastOf (IsBrokenBy units names (HasPlain at plain)) (plain_found (declarations units) names known at plain)

-- what is found at the arms of a match is the first of what they break
abbrev pub ArmsAreJudged : Type 0
ArmsAreJudged =
    (units : List UnitTree) (names : List (List ℕ)) (known : Place → Option ℤ) (at : Environment) (labels : List ArmLabelTree)
    → AreItemValues units names known → IsLeastOf (IsBrokenBy units names (Arms at labels)) (arms_found (declarations units) names known at labels)

-- what is found at the type of a field is the first of what it breaks
abbrev pub TypesAreJudged : Type 0
TypesAreJudged =
    (units : List UnitTree) (names : List (List ℕ)) (known : Place → Option ℤ) (at : Environment) (type : TypeTree)
    → AreItemValues units names known → IsLeastOf (IsBrokenBy units names (HasType at type)) (type_found (declarations units) (map enum_places (enums units)) names known at type)
