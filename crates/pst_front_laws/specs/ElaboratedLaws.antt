-- The laws of values speak of the sources by which models are made.
use Rattle.std.specs.Prelude.{ℕ, List}
use Rattle.pst_ast.specs.DeclarationTree.{UnitTree}
use Rattle.pst_model.specs.ModelTree.{ModelTree}
use Rattle.pst_elab_rules.specs.Model.{sources}
use Rattle.pst_elab_rules.specs.Ends.{IsElaborated}
use Rattle.pst_front_laws.specs.ValueLaws.{AreValued}

-- where sources are elaborated they keep the rules of types, and their model is made by the values of their constants
abbrev pub ElaboratedAreValued : Type 0
ElaboratedAreValued =
    (units : List UnitTree) (names : List (List ℕ)) (component action : List ℕ) (model : ModelTree) (root : ℕ) (is : IsElaborated units names component action model root)
    → AreValued (sources units names is.is_model.constants)
