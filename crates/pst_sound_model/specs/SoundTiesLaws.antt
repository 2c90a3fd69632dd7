-- Laws of the definitions: binds of activities of the model of sources are sound.
use Rattle.std.specs.Prelude.{◌≡◌, ℕ, List, All, AllPairs}
use Rattle.pst_ast.specs.DeclarationTree.{UnitTree}
use Rattle.pst_model.specs.ActivityTree.{ActivityTree}
use Rattle.pst_model.specs.ModelTree.{Compound, ModelTree}
use Rattle.pst_model.specs.SoundActivity.{IsSoundTie, AreTiesApart}
use Rattle.pst_ast.specs.Breaches.{IsNone}
use Rattle.pst_ast.specs.Declarations.{declarations}
use Rattle.pst_ast.specs.NameRules.{NameBreach}
use Rattle.pst_type_rules.specs.TypeRules.{TypeBreach}
use Rattle.pst_elab_rules.specs.Model.{IsModel}
use Rattle.pst_sound_model.specs.SoundExpressionsConditions.{HaveOwnPlaces}

-- the binds of an activity are sound, each by itself and each two of them
pub record HasSoundTies (model : ModelTree) (activity : ActivityTree) : Type 0 where
  pub ties : All (IsSoundTie model activity) activity.binds
  pub apart : AllPairs (AreTiesApart model activity) activity.binds

-- those of each activity are
abbrev pub TiesAreSound : Type 0
TiesAreSound =
    (units : List UnitTree) (names : List (List ℕ)) (model : ModelTree) → HaveOwnPlaces (declarations units) → IsNone (NameBreach units names) → IsNone (TypeBreach units names) → IsModel units names model
    → All (λ action. (activity : ActivityTree) → action.content ≡ Compound activity → HasSoundTies model activity) model.actions
