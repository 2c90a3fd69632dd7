-- Laws of the definitions.
use Rattle.std.specs.Prelude.{◌≡◌, ◌↔◌, ℕ, ◌≤◌, ℤ, List, length}
use Rattle.pst_base.specs.declared.position.Place.{Place}
use Rattle.pst_ast.specs.ExpressionTree.{ExprTree}
use Rattle.pst_ast.specs.SharedTree.{TypeTree}
use Rattle.pst_ast.specs.DeclarationTree.{UnitTree}
use Rattle.pst_expr.specs.declared.ranges.Span.{Span}
use Rattle.pst_expr.specs.Spans.{IsInSpans}
use Rattle.pst_ast.specs.declared.environment.Environment.{Environment}
use Rattle.pst_type_rules.specs.Constants.{IsItemValue, HasValue}
use Rattle.pst_type_rules.specs.Domains.{IsInType, IsDomainOf}

-- an enum item has at most one value
abbrev pub ItemsHaveOneValue : Type 0
ItemsHaveOneValue = (units : List UnitTree) (names : List (List ℕ)) (place : Place) (v w : ℤ) → IsItemValue units names place v → IsItemValue units names place w → v ≡ w

-- an expression has at most one value
abbrev pub ExpressionsHaveOneValue : Type 0
ExpressionsHaveOneValue =
    (units : List UnitTree) (names : List (List ℕ)) (at : Environment) (expr : ExprTree) (v w : ℤ) → HasValue units names at expr v → HasValue units names at expr w → v ≡ w

-- a type has at most one domain
abbrev pub TypesHaveOneDomain : Type 0
TypesHaveOneDomain =
    (units : List UnitTree) (names : List (List ℕ)) (at : Environment) (type : TypeTree) (spans others : List Span)
    → IsDomainOf units names at type spans → IsDomainOf units names at type others → spans ≡ others

-- no spans with the same numbers are fewer than those of a type's domain
abbrev pub DomainsAreShortest : Type 0
DomainsAreShortest =
    (units : List UnitTree) (names : List (List ℕ)) (at : Environment) (type : TypeTree) (spans others : List Span)
    → IsDomainOf units names at type spans → ((v : ℤ) → IsInSpans v others ↔ IsInType units names at type v) → length spans ≤ length others
