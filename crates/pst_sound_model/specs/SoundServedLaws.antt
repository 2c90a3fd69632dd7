-- Laws of the definitions: what pools serve in the model of sources is sound.
use Rattle.std.specs.Prelude.{ℕ, List, All}
use Rattle.pst_ast.specs.DeclarationTree.{UnitTree}
use Rattle.pst_model.specs.ModelTree.{ModelTree}
use Rattle.pst_model.specs.Served.{IsSoundServe}
use Rattle.pst_ast.specs.Breaches.{IsNone}
use Rattle.pst_ast.specs.Declarations.{declarations}
use Rattle.pst_ast.specs.NameRules.{NameBreach}
use Rattle.pst_type_rules.specs.TypeRules.{TypeBreach}
use Rattle.pst_elab_rules.specs.Model.{IsModel}
use Rattle.pst_sound_model.specs.SoundExpressionsConditions.{HaveOwnPlaces}

-- each entry is of an instance and a pool that are there, and the pool is of the object type of the action's reference or claim
abbrev pub ServesAreSound : Type 0
ServesAreSound =
    (units : List UnitTree) (names : List (List ℕ)) (model : ModelTree) → HaveOwnPlaces (declarations units) → IsNone (NameBreach units names) → IsNone (TypeBreach units names) → IsModel units names model
    → All (IsSoundServe model) model.served
