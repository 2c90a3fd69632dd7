-- Laws of the definitions.
use Rattle.std.specs.Prelude.{◌≡◌, ℕ, List}
use Rattle.pst_base.specs.declared.position.Place.{Place}
use Rattle.pst_ast.specs.DeclarationTree.{UnitTree}
use Rattle.pst_ast.specs.Breaches.{IsLeast}
use Rattle.pst_type_rules.specs.declared.typed.ConstantValue.{ConstantValue}
use Rattle.pst_type_rules.specs.TypeRules.{TypeBreach}
use Rattle.pst_type_rules.specs.Typed.{AreConstants}

-- of the breaches of the rules of types at most one is the least
abbrev pub TypeBreachesHaveOneLeast : Type 0
TypeBreachesHaveOneLeast =
    (units : List UnitTree) (names : List (List ℕ)) (p q : Place) (r s : ℕ)
    → IsLeast (TypeBreach units names) p r → IsLeast (TypeBreach units names) q s → (p ≡ q) × (r ≡ s)

-- sources have at most one list of constants
abbrev pub ConstantsAreOne : Type 0
ConstantsAreOne =
    (units : List UnitTree) (names : List (List ℕ)) (constants others : List ConstantValue)
    → AreConstants units names constants → AreConstants units names others → constants ≡ others
