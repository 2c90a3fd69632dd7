-- Laws of the definitions: constraints of the model of sources are sound.
use Rattle.std.specs.Prelude.{◌≡◌, ℕ, List, All}
use Rattle.std.specs.Option.{IsSomeAnd}
use Rattle.pst_ast.specs.DeclarationTree.{UnitTree}
use Rattle.pst_model.specs.ConstraintTree.{SlotTree, Through}
use Rattle.pst_model.specs.ActivityTree.{ActivityTree}
use Rattle.pst_model.specs.ModelTree.{Compound, ActionTree, ModelTree}
use Rattle.pst_model.specs.SoundConstraint.{IsSoundConstraint}
use Rattle.pst_model.specs.SoundSlots.{IsObjectSlot, IsActionSlot, handle_type}
use Rattle.pst_ast.specs.Breaches.{IsNone}
use Rattle.pst_ast.specs.Declarations.{declarations}
use Rattle.pst_ast.specs.NameRules.{NameBreach}
use Rattle.pst_type_rules.specs.TypeRules.{TypeBreach}
use Rattle.pst_elab_rules.specs.Model.{IsModel}
use Rattle.pst_sound_model.specs.SoundExpressionsConditions.{HaveOwnPlaces}

-- each constraint of each object type is sound
abbrev pub ObjectConstraintsAreSound : Type 0
ObjectConstraintsAreSound =
    (units : List UnitTree) (names : List (List ℕ)) (model : ModelTree) → HaveOwnPlaces (declarations units) → IsNone (TypeBreach units names) → IsModel units names model
    → All (λ object. All (IsSoundConstraint (IsObjectSlot object)) object.constraints) model.objects

-- Each constraint of each action type is sound but for one point: its variables are below its slots, and each slot names a field, or a part of a
-- reference or claim, of the action or of the action type of one of its handles. That such a handle is traversed once isn't said here.
abbrev pub IsNamedSlot : ModelTree → List ℕ → ActionTree → SlotTree → Type 0
IsNamedSlot model handles action (Through handle slot) = IsSomeAnd (handle_type model handles handle) (λ traversed. IsActionSlot model.objects traversed slot)
IsNamedSlot model handles action slot = IsActionSlot model.objects action slot

-- the action types of the handles that each action type has, with those of its bases
pub record HasNamedConstraints (model : ModelTree) (action : ActionTree) : Type 0 where
  pub handles : List ℕ
  pub compound : (activity : ActivityTree) → action.content ≡ Compound activity → activity.handles ≡ handles
  pub constraints : All (IsSoundConstraint (IsNamedSlot model handles action)) action.constraints

abbrev pub ActionConstraintsAreNamed : Type 0
ActionConstraintsAreNamed =
    (units : List UnitTree) (names : List (List ℕ)) (model : ModelTree) → HaveOwnPlaces (declarations units) → IsNone (NameBreach units names) → IsNone (TypeBreach units names) → IsModel units names model
    → All (HasNamedConstraints model) model.actions
