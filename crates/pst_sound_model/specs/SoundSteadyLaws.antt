-- Laws of the definitions: constraints of action types of the model of sources are sound.
use Rattle.std.specs.Prelude.{ℕ, List, All}
use Rattle.pst_ast.specs.DeclarationTree.{UnitTree}
use Rattle.pst_model.specs.ModelTree.{ModelTree}
use Rattle.pst_model.specs.SoundConstraint.{IsSoundConstraint}
use Rattle.pst_model.specs.SoundSlots.{IsConstraintSlot}
use Rattle.pst_ast.specs.Breaches.{IsNone}
use Rattle.pst_ast.specs.Declarations.{declarations}
use Rattle.pst_ast.specs.NameRules.{NameBreach}
use Rattle.pst_type_rules.specs.TypeRules.{TypeBreach}
use Rattle.pst_elab_rules.specs.Model.{IsModel}
use Rattle.pst_sound_model.specs.SoundExpressionsConditions.{HaveOwnPlaces}

-- each constraint of each action type is sound
abbrev pub ActionConstraintsAreSound : Type 0
ActionConstraintsAreSound =
    (units : List UnitTree) (names : List (List ℕ)) (model : ModelTree) → HaveOwnPlaces (declarations units) → IsNone (NameBreach units names) → IsNone (TypeBreach units names) → IsModel units names model
    → All (λ action. All (IsSoundConstraint (IsConstraintSlot model action)) action.constraints) model.actions
