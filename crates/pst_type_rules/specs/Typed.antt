-- The values of the constant expressions of the sources.
use Rattle.std.specs.Prelude.{◌≡◌, ◌↔◌, ℕ, List, [], ◌∷◌, IsTrue}
use Rattle.std.specs.List.{Contains}
use Rattle.pst_base.specs.Places.{IsBefore}
use Rattle.pst_ast.specs.ExpressionTree.{ExprTree}
use Rattle.pst_ast.specs.DeclarationTree.{UnitTree}
use Rattle.pst_ast.specs.declared.environment.Environment.{Environment}
use Rattle.pst_ast.specs.Uses.{Judges, Role, uses}
use Rattle.pst_type_rules.specs.Constants.{IsConstant}
use Rattle.pst_type_rules.specs.declared.typed.ConstantValue.{ConstantValue}
use Rattle.pst_type_rules.specs.Places.{expr_place}
use Rattle.pst_type_rules.specs.TypeRules.{is_constant}

-- a constant part has that value, and begins there
pub record IsConstantOf (units : List UnitTree) (names : List (List ℕ)) (c : ConstantValue) : Type 0 where
  pub environment : Environment
  pub role : Role
  pub expr : ExprTree
  pub among : Contains (uses units) (Judges environment role expr)
  pub constant : IsTrue (is_constant role)
  pub at : c.at ≡ expr_place expr
  pub value : IsConstant units names environment expr c.value

-- each stands at an earlier place than those behind it
abbrev pub AreInOrder : List ConstantValue → Type 0
AreInOrder [] = Unit {0}
AreInOrder (c ∷ more) = ((d : ConstantValue) → Contains more d → IsBefore c.at d.at) × AreInOrder more

-- The constant parts of the sources with their values, in order of place.
pub record AreConstants (units : List UnitTree) (names : List (List ℕ)) (constants : List ConstantValue) : Type 0 where
  pub order : AreInOrder constants
  pub each : (c : ConstantValue) → Contains constants c ↔ IsConstantOf units names c
