-- Laws of the definitions: bodies of the model of sources are sound.
use Rattle.std.specs.Prelude.{◌≡◌, ℕ, List, All}
use Rattle.pst_ast.specs.DeclarationTree.{UnitTree}
use Rattle.pst_model.specs.BodyTree.{BodyStepTree}
use Rattle.pst_model.specs.ModelTree.{Atomic, ActionTree, ModelTree}
use Rattle.pst_model.specs.SoundBody.{IsSoundBody}
use Rattle.pst_ast.specs.Breaches.{IsNone}
use Rattle.pst_ast.specs.Declarations.{declarations}
use Rattle.pst_ast.specs.NameRules.{NameBreach}
use Rattle.pst_type_rules.specs.TypeRules.{TypeBreach}
use Rattle.pst_elab_rules.specs.Model.{IsModel}
use Rattle.pst_sound_model.specs.SoundExpressionsConditions.{HaveOwnPlaces}
use Rattle.pst_sound_model.specs.Conditions.{StandApart}

-- where it is atomic, its body is sound
abbrev pub HasSoundBody : ModelTree → ActionTree → Type 0
HasSoundBody model action = (body : List BodyStepTree) → action.content ≡ Atomic body → IsSoundBody model action body

-- the body of each atomic action is sound
abbrev pub BodiesAreSound : Type 0
BodiesAreSound =
    (units : List UnitTree) (names : List (List ℕ)) (model : ModelTree) → HaveOwnPlaces (declarations units) → StandApart (declarations units) → IsNone (NameBreach units names) → IsNone (TypeBreach units names)
    → IsModel units names model → All (HasSoundBody model) model.actions
