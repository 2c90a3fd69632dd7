-- What elaboration answers: the first breach of a rule, that there are too many instances, or the model and its root.
use Rattle.std.specs.Prelude.{◌≡◌, ℕ, ◌-◌, ◌^◌, ◌<◌, ◌≤◌, Bool, true, false, ◌&&◌, List, [], ◌∷◌, length, position, Option, Some, None}
use Rattle.std.specs.Option.{option_map_or, option_and_then}
use Rattle.pst_base.specs.declared.position.Place.{Place}
use Rattle.pst_ast.specs.declared.instance.Instance.{Instance}
use Rattle.pst_ast.specs.DeclarationTree.{UnitTree}
use Rattle.pst_model.specs.Limits.{most_instances}
use Rattle.pst_model.specs.ModelTree.{ModelTree}
use Rattle.pst_ast.specs.declared.scope_declaration.Declaration.{Declaration}
use Rattle.pst_ast.specs.Breaches.{IsLeast, IsNone}
use Rattle.pst_ast.specs.Declarations.{declarations}
use Rattle.pst_ast.specs.Sorts.{is_action}
use Rattle.pst_ast.specs.Lookups.{declared_at, is_text}
use Rattle.pst_ast.specs.NameRules.{NameBreach}
use Rattle.pst_type_rules.specs.Members.{those_that}
use Rattle.pst_type_rules.specs.TypeRules.{TypeBreach}
use Rattle.pst_tree.specs.Instances.{AreInstances}
use Rattle.pst_bind.specs.Needs.{is_concrete, homes_of}
use Rattle.pst_bind.specs.PoolRules.{PoolBreach}
use Rattle.pst_elab_rules.specs.Model.{IsModel}

-- ---- the root

abbrev pub is_filled : List ℕ → Bool
is_filled [] = false
is_filled (n ∷ more) = true

-- an action that isn't abstract has these names of its component and its own, and its component has an instance
abbrev pub is_root : List UnitTree → List (List ℕ) → List Instance → List ℕ → List ℕ → Declaration → Bool
is_root units names instances component action d =
    let ds = declarations units in
    option_map_or (λ c. is_text names component c.name.id) (option_and_then (declared_at ds) d.inside) false
    && (is_text names action d.name.id && (is_concrete units d && is_filled (homes_of ds instances d)))

-- the number of the root's action type
abbrev pub root_number : List UnitTree → List (List ℕ) → List Instance → List ℕ → List ℕ → Option ℕ
root_number units names instances component action = position (is_root units names instances component action) (those_that is_action (declarations units))

-- a place behind those of all files
abbrev pub root_place : Place
root_place = record { file = 2 ^ 32 - 1; line = 1; column = 1 }

-- the words name no root
pub data RootBreach (units : List UnitTree) (names : List (List ℕ)) (instances : List Instance) (component action : List ℕ) : Place → ℕ → Type 0 where
  NoRoot : root_number units names instances component action ≡ None → RootBreach units names instances component action root_place 24

-- ---- the order of rules

-- a rule of pools, or of the root
pub data LastBreach (units : List UnitTree) (names : List (List ℕ)) (instances : List Instance) (component action : List ℕ) : Place → ℕ → Type 0 where
  OfPools : (place : Place) (rule : ℕ) → PoolBreach units instances place rule → LastBreach units names instances component action place rule
  OfRoot : (place : Place) (rule : ℕ) → RootBreach units names instances component action place rule → LastBreach units names instances component action place rule

-- the rules of names and types are kept
pub record AreTyped (units : List UnitTree) (names : List (List ℕ)) : Type 0 where
  pub names_right : IsNone (NameBreach units names)
  pub types_right : IsNone (TypeBreach units names)

-- The first breach: the least one of the rules of names; where there is none, of the rules of types; and where there is none either, and there aren't
-- too many instances, of the rules of pools and of the root.
pub data IsFirstBreach (units : List UnitTree) (names : List (List ℕ)) (component action : List ℕ) (place : Place) (rule : ℕ) : Type 0 where
  InNames : IsLeast (NameBreach units names) place rule → IsFirstBreach units names component action place rule
  InTypes : IsNone (NameBreach units names) → IsLeast (TypeBreach units names) place rule → IsFirstBreach units names component action place rule
  AtLast : (instances : List Instance) → AreTyped units names → AreInstances units names instances → length instances ≤ most_instances
      → IsLeast (LastBreach units names instances component action) place rule → IsFirstBreach units names component action place rule

-- there are more instances than the limit
pub record HasMany (units : List UnitTree) (names : List (List ℕ)) : Type 0 where
  pub typed : AreTyped units names
  pub instances : List Instance
  pub are : AreInstances units names instances
  pub many : most_instances < length instances

-- the model of sources that keep all rules and limits, and the number of the root's action type
pub record IsElaborated (units : List UnitTree) (names : List (List ℕ)) (component action : List ℕ) (model : ModelTree) (root : ℕ) : Type 0 where
  pub typed : AreTyped units names
  pub instances : List Instance
  pub are : AreInstances units names instances
  pub few : length instances ≤ most_instances
  pub last : IsNone (LastBreach units names instances component action)
  pub is_model : IsModel units names model
  pub is_root : root_number units names instances component action ≡ Some root
