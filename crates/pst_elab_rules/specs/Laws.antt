-- Laws of the definitions.
use Rattle.std.specs.Prelude.{◌≡◌, ℕ, List}
use Rattle.pst_base.specs.declared.position.Place.{Place}
use Rattle.pst_ast.specs.DeclarationTree.{UnitTree}
use Rattle.pst_model.specs.ModelTree.{ModelTree}
use Rattle.pst_model.specs.Preorder.{IsInstanceTree}
use Rattle.pst_model.specs.Served.{IsInOrder}
use Rattle.pst_elab_rules.specs.Model.{IsModel}
use Rattle.pst_elab_rules.specs.Ends.{IsFirstBreach, HasMany, IsElaborated}

-- sources have at most one model
abbrev pub ModelsAreOne : Type 0
ModelsAreOne = (units : List UnitTree) (names : List (List ℕ)) (model other : ModelTree) → IsModel units names model → IsModel units names other → model ≡ other

-- in a model of sources the instances stand in preorder, and what pools serve by action, instance and reference, each at most once
abbrev pub ModelsAreInOrder : Type 0
ModelsAreInOrder = (units : List UnitTree) (names : List (List ℕ)) (model : ModelTree) → IsModel units names model → IsInstanceTree model.instances × IsInOrder model.served

-- at most one breach is the first
abbrev pub FirstBreachesAreOne : Type 0
FirstBreachesAreOne =
    (units : List UnitTree) (names : List (List ℕ)) (component action : List ℕ) (p q : Place) (r s : ℕ)
    → IsFirstBreach units names component action p r → IsFirstBreach units names component action q s → (p ≡ q) × (r ≡ s)

-- sources that are elaborated break no rule and no limit, and have one model and one root
pub record AnswersAreApart : Type 0 where
  pub no_breach : (units : List UnitTree) (names : List (List ℕ)) (component action : List ℕ) (model : ModelTree) (root : ℕ) (place : Place) (rule : ℕ)
      → IsElaborated units names component action model root → IsFirstBreach units names component action place rule → ⊥
  pub not_many : (units : List UnitTree) (names : List (List ℕ)) (component action : List ℕ) (model : ModelTree) (root : ℕ)
      → IsElaborated units names component action model root → HasMany units names → ⊥
  pub many_alone : (units : List UnitTree) (names : List (List ℕ)) (component action : List ℕ) (place : Place) (rule : ℕ)
      → HasMany units names → IsFirstBreach units names component action place rule → ⊥
  pub one_answer : (units : List UnitTree) (names : List (List ℕ)) (component action : List ℕ) (model other : ModelTree) (root number : ℕ)
      → IsElaborated units names component action model root → IsElaborated units names component action other number → (model ≡ other) × (root ≡ number)
