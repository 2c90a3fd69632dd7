-- Laws between what an action has by the rules of types and what is found for it.
use Rattle.std.specs.Prelude.{◌≡◌, ◌↔◌, List, Option, Some, None, IsTrue}
use Rattle.std.specs.List.{Contains}
use Rattle.pst_ast.specs.ActivityTree.{StatementTree, MakeActivity}
use Rattle.pst_ast.specs.DeclarationTree.{UnitTree}
use Rattle.pst_ast.specs.declared.scope_declaration.Declaration.{Declaration}
use Rattle.pst_ast.specs.Declarations.{declarations}
use Rattle.pst_type_rules.specs.Members.{IsCompound}
use Rattle.pst_tree.specs.Contents.{Content, Activity, content_of, is_compound}

-- the statements of an activity that was found
abbrev pub statements_in : Option Content → Option (List StatementTree)
statements_in (Some (Activity action (MakeActivity word left statements right))) = Some statements
statements_in _ = None

-- the statements of the activity that a declared action has by the rules of types are those that are found
abbrev pub ActivitiesAreFound : Type 0
ActivitiesAreFound =
    (units : List UnitTree) (d : Declaration) (statements : List StatementTree) → Contains (declarations units) d → IsCompound units d statements ↔ (statements_in (content_of units d) ≡ Some statements)

-- a declared action is found to be compound exactly where it has an activity by the rules of types
abbrev pub CompoundsAreFound : Type 0
CompoundsAreFound =
    (units : List UnitTree) (d : Declaration) → Contains (declarations units) d → IsTrue (is_compound units d) ↔ ((statements : List StatementTree) × IsCompound units d statements)
