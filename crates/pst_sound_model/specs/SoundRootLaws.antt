-- Laws of the definitions: the root of the model of sources isn't abstract.
use Rattle.std.specs.Prelude.{ℕ, List}
use Rattle.pst_ast.specs.DeclarationTree.{UnitTree}
use Rattle.pst_model.specs.ModelTree.{ModelTree}
use Rattle.pst_elab_rules.specs.Ends.{IsElaborated}
use Rattle.pst_built.specs.Laws.{IsConcreteRoot}

-- the root of the model of sources that keep the rules and limits isn't abstract
abbrev pub RootsAreConcrete : Type 0
RootsAreConcrete = (units : List UnitTree) (names : List (List ℕ)) (component action : List ℕ) (model : ModelTree) (root : ℕ) → IsElaborated units names component action model root → IsConcreteRoot model root
