-- Sources that are elaborated keep the rules of types, and have the values of their constants.
use Rattle.std.specs.Prelude.{ℕ, List}
use Rattle.pst_ast.specs.DeclarationTree.{UnitTree}
use Rattle.pst_model.specs.ModelTree.{ModelTree}
use Rattle.pst_elab_rules.specs.Model.{sources}
use Rattle.pst_elab_rules.specs.Ends.{IsElaborated}
use Rattle.pst_front_laws.specs.ValueLaws.{AreValued}

pub elaborated_are_valued : (units : List UnitTree) (names : List (List ℕ)) (component action : List ℕ) (model : ModelTree) (root : ℕ) (is : IsElaborated units names component action model root)
    → AreValued (sources units names is.is_model.constants)
elaborated_are_valued units names component action model root is = record { types_right = is.typed.types_right; constants = is.is_model.are_constants }
