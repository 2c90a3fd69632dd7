-- Laws of the definitions: types, pools and what they serve in the model of sources are sound.
use Rattle.std.specs.Prelude.{◌≡◌, ℕ, ◌≤◌, List, length, All}
use Rattle.pst_ast.specs.DeclarationTree.{UnitTree}
use Rattle.pst_model.specs.Limits.{most_fields, most_references, most_claims}
use Rattle.pst_model.specs.ActivityTree.{ActivityTree}
use Rattle.pst_model.specs.ModelTree.{Compound, ActionTree, ModelTree}
use Rattle.pst_model.specs.Sound.{IsSoundReference, IsSoundClaim, IsSoundCompound, IsSoundPool, IsSoundField, IsSoundFunction, IsSoundObject}
use Rattle.pst_model.specs.Served.{IsServedWhole}
use Rattle.pst_ast.specs.Breaches.{IsNone}
use Rattle.pst_ast.specs.Declarations.{declarations}
use Rattle.pst_ast.specs.NameRules.{NameBreach}
use Rattle.pst_type_rules.specs.TypeRules.{TypeBreach}
use Rattle.pst_elab_rules.specs.Ends.{IsElaborated}
use Rattle.pst_elab_rules.specs.Model.{IsModel}
use Rattle.pst_sound_model.specs.SoundExpressionsConditions.{HaveOwnPlaces}

-- references are of flow objects, and claims of resources
pub record HasSoundNeeds (model : ModelTree) (action : ActionTree) : Type 0 where
  pub references : All (IsSoundReference model.objects) action.references
  pub claims : All (IsSoundClaim model.objects) action.claims

abbrev pub NeedsAreSound : Type 0
NeedsAreSound =
    (units : List UnitTree) (names : List (List ℕ)) (model : ModelTree) → HaveOwnPlaces (declarations units) → IsNone (NameBreach units names) → IsNone (TypeBreach units names) → IsModel units names model
    → All (HasSoundNeeds model) model.actions

-- pools serve each reference and claim of each atomic action that isn't abstract, in each instance of its component
abbrev pub NeedsAreServedWhole : Type 0
NeedsAreServedWhole =
    (units : List UnitTree) (names : List (List ℕ)) (component action : List ℕ) (model : ModelTree) (root : ℕ) → HaveOwnPlaces (declarations units) → IsElaborated units names component action model root
    → IsServedWhole model

-- an action type has no more references and claims than it may have, and none at all where it has an activity
pub record HasFewNeeds (action : ActionTree) : Type 0 where
  pub few_references : length action.references ≤ most_references
  pub few_claims : length action.claims ≤ most_claims
  pub compound : (activity : ActivityTree) → action.content ≡ Compound activity → IsSoundCompound action

abbrev pub NeedsAreFew : Type 0
NeedsAreFew =
    (units : List UnitTree) (names : List (List ℕ)) (model : ModelTree) → IsNone (NameBreach units names) → IsNone (TypeBreach units names) → IsModel units names model → All HasFewNeeds model.actions

-- each pool stands in an instance, is of an object type, and has a size within its limits
abbrev pub PoolsAreSound : Type 0
PoolsAreSound =
    (units : List UnitTree) (names : List (List ℕ)) (model : ModelTree) → HaveOwnPlaces (declarations units) → IsNone (NameBreach units names) → IsNone (TypeBreach units names) → IsModel units names model
    → All (IsSoundPool model) model.pools

-- each field of each action type and object type has a domain, and each element of an array a number within its limits
abbrev pub FieldsAreSound : Type 0
FieldsAreSound =
    (units : List UnitTree) (names : List (List ℕ)) (model : ModelTree) → IsNone (TypeBreach units names) → IsModel units names model
    → All (λ action. All IsSoundField action.fields) model.actions × All (λ object. All IsSoundField object.fields) model.objects

-- no action type and no object type has more fields than a type may have
abbrev pub FieldsAreFew : Type 0
FieldsAreFew =
    (units : List UnitTree) (names : List (List ℕ)) (model : ModelTree) → IsNone (NameBreach units names) → IsNone (TypeBreach units names) → IsModel units names model
    → All (λ action. length action.fields ≤ most_fields) model.actions × All (λ object. length object.fields ≤ most_fields) model.objects

-- no function has more parameters than one may have
abbrev pub FunctionsAreSound : Type 0
FunctionsAreSound = (units : List UnitTree) (names : List (List ℕ)) (model : ModelTree) → IsNone (TypeBreach units names) → IsModel units names model → All IsSoundFunction model.functions

-- each object type is sound
abbrev pub ObjectsAreSound : Type 0
ObjectsAreSound =
    (units : List UnitTree) (names : List (List ℕ)) (model : ModelTree) → HaveOwnPlaces (declarations units) → IsNone (NameBreach units names) → IsNone (TypeBreach units names) → IsModel units names model
    → All IsSoundObject model.objects
