-- What is found of single uses is the least of what they break.
use Rattle.std.specs.Prelude.{ℕ, ℤ, List, Bool, Option}
use Rattle.pst_base.specs.declared.position.Place.{Place}
use Rattle.pst_ast.specs.declared.leaf.Name.{Name}
use Rattle.pst_ast.specs.declared.activity.EndNode.{EndNode}
use Rattle.pst_ast.specs.ExpressionTree.{ExprTree}
use Rattle.pst_ast.specs.DeclarationTree.{UnitTree}
use Rattle.pst_ast.specs.declared.environment.Environment.{Environment}
use Rattle.pst_ast.specs.declared.referent.Finding.{Finding}
use Rattle.pst_ast.specs.declared.referent.Traversal.{Traversal}
use Rattle.pst_ast.specs.Declarations.{declarations}
use Rattle.pst_ast.specs.Uses.{Use, Judges, Uniques, Branches, Ties, Targets, Assigns, Performs, Passes, Role}
use Rattle.pst_evaluate.specs.Kept.{constant_by}
use Rattle.pst_evaluate.specs.Settled.{AreItemValues}
use Rattle.pst_type_rules.specs.TypeRules.{UseBreaks}
use Rattle.pst_name_rules.specs.Leasts.{IsLeastOf}
use Rattle.pst_use_rules.specs.Found.{judged_found, unique_found, branches_found, ties_found, targets_found, assigns_found, performs_found, passes_found}

-- a use breaks that rule there
abbrev pub IsBroken : List UnitTree → List (List ℕ) → Use → Finding → Type 0
IsBroken units names u f = UseBreaks units names u f.place f.rule

abbrev pub ExpressionsAreJudged : Type 0
ExpressionsAreJudged =
    (units : List UnitTree) (names : List (List ℕ)) (known : Place → Option ℤ) (at : Environment) (role : Role) (expr : ExprTree)
    → AreItemValues units names known
    → IsLeastOf (IsBroken units names (Judges at role expr)) (judged_found (declarations units) names at role expr (constant_by (declarations units) names known at expr))

abbrev pub CountsAreJudged : Type 0
CountsAreJudged =
    (units : List UnitTree) (names : List (List ℕ))
    → ((items : List ExprTree) → IsLeastOf (IsBroken units names (Uniques items)) (unique_found items))
    × ((places : List Place) → IsLeastOf (IsBroken units names (Branches places)) (branches_found places))

abbrev pub BindsAreJudged : Type 0
BindsAreJudged =
    (units : List UnitTree) (names : List (List ℕ))
    → ((at : Environment) (first : EndNode) (others : List EndNode) → IsLeastOf (IsBroken units names (Ties at first others)) (ties_found (declarations units) names at first others))
    × ((component : Place) (pool : Name) (instances : List Name) (action reference : Name)
    → IsLeastOf (IsBroken units names (Targets component pool instances action reference)) (targets_found (declarations units) component pool instances action reference))

abbrev pub AssignmentsAreJudged : Type 0
AssignmentsAreJudged =
    (units : List UnitTree) (names : List (List ℕ)) (at : Environment) (name : Name) → IsLeastOf (IsBroken units names (Assigns at name)) (assigns_found (declarations units) names at name)

abbrev pub CallsAreJudged : Type 0
CallsAreJudged =
    (units : List UnitTree) (names : List (List ℕ))
    → ((at : Environment) (place : Place) (traversal : Traversal) → IsLeastOf (IsBroken units names (Performs at place traversal)) (performs_found units (declarations units) names at place traversal))
    × ((component : Option Place) (name : Name) (arguments : ℕ) (needed : Bool) → IsLeastOf (IsBroken units names (Passes component name arguments needed)) (passes_found units (declarations units) component name arguments needed))
