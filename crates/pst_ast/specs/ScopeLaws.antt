-- Laws of the definitions.
use Rattle.std.specs.Prelude.{◌≡◌, ℕ, List}
use Rattle.pst_base.specs.declared.position.Place.{Place}
use Rattle.pst_ast.specs.DeclarationTree.{UnitTree}
use Rattle.pst_ast.specs.declared.entry.TypeEntry.{TypeEntry}
use Rattle.pst_ast.specs.declared.entry.NameMeaning.{NameMeaning}
use Rattle.pst_ast.specs.Breaches.{IsLeast}
use Rattle.pst_ast.specs.NameRules.{NameBreach}
use Rattle.pst_ast.specs.Scopes.{AreScopes}

-- of the breaches of the rules of names at most one is the least
abbrev pub NameBreachesHaveOneLeast : Type 0
NameBreachesHaveOneLeast =
    (units : List UnitTree) (names : List (List ℕ)) (p q : Place) (r s : ℕ)
    → IsLeast (NameBreach units names) p r → IsLeast (NameBreach units names) q s → (p ≡ q) × (r ≡ s)

-- sources have at most one list of types, and one of meanings
abbrev pub ScopesAreOne : Type 0
ScopesAreOne =
    (units : List UnitTree) (names : List (List ℕ)) (types others : List TypeEntry) (meanings more : List NameMeaning)
    → AreScopes units names types meanings → AreScopes units names others more → (types ≡ others) × (meanings ≡ more)
