-- Laws of the definitions.
use Rattle.std.specs.Prelude.{◌≡◌, ◌↔◌, ℕ, ℤ, List, Option, Some}
use Rattle.pst_base.specs.declared.position.Place.{Place}
use Rattle.pst_ast.specs.ExpressionTree.{ExprTree}
use Rattle.pst_ast.specs.DeclarationTree.{UnitTree}
use Rattle.pst_ast.specs.declared.environment.Environment.{Environment}
use Rattle.pst_ast.specs.Declarations.{declarations}
use Rattle.pst_type_rules.specs.Constants.{IsConstant}
use Rattle.pst_evaluate.specs.Kept.{constant_by}
use Rattle.pst_evaluate.specs.Settled.{AreItemValues}

-- by the values that items have an expression has just the value that it has as a constant
abbrev pub ConstantsAreFound : Type 0
ConstantsAreFound =
    (units : List UnitTree) (names : List (List ℕ)) (known : Place → Option ℤ) (at : Environment) (expr : ExprTree) (v : ℤ)
    → AreItemValues units names known → (constant_by (declarations units) names known at expr ≡ Some v) ↔ IsConstant units names at expr v
