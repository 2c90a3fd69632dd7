-- Laws of the definitions: steps of activities of the model of sources are sound.
use Rattle.std.specs.Prelude.{◌≡◌, ℕ, List, All}
use Rattle.pst_ast.specs.DeclarationTree.{UnitTree}
use Rattle.pst_model.specs.ActivityTree.{ActivityTree}
use Rattle.pst_model.specs.ModelTree.{Compound, ModelTree}
use Rattle.pst_model.specs.SoundActivity.{EachStep, IsSoundStep}
use Rattle.pst_ast.specs.Breaches.{IsNone}
use Rattle.pst_ast.specs.Declarations.{declarations}
use Rattle.pst_ast.specs.NameRules.{NameBreach}
use Rattle.pst_type_rules.specs.TypeRules.{TypeBreach}
use Rattle.pst_elab_rules.specs.Model.{IsModel}
use Rattle.pst_sound_model.specs.SoundExpressionsConditions.{HaveOwnPlaces}

-- each step of each activity is sound, by the repetitions round it
abbrev pub StepsAreSound : Type 0
StepsAreSound =
    (units : List UnitTree) (names : List (List ℕ)) (model : ModelTree) → HaveOwnPlaces (declarations units) → IsNone (NameBreach units names) → IsNone (TypeBreach units names) → IsModel units names model
    → All (λ action. (activity : ActivityTree) → action.content ≡ Compound activity → All (EachStep (IsSoundStep model action activity.handles) 0) activity.steps) model.actions
