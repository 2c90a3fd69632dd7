-- The members of types, with those of their bases, and the activity that an action has.
use Rattle.std.specs.Prelude.{◌≡◌, List, [], ◌∷◌, ◌++◌, Bool, Some, None}
use Rattle.std.specs.List.{filter, flat_map}
use Rattle.pst_ast.specs.ActivityTree.{StatementTree, MakeActivity}
use Rattle.pst_ast.specs.BodyTree.{BodyTree}
use Rattle.pst_ast.specs.DeclarationTree.{UnitTree, ActionPartTree, ActionPartActivity, ActionPartBody}
use Rattle.pst_ast.specs.declared.scope_declaration.Declaration.{Declaration}
use Rattle.pst_ast.specs.declared.scope_declaration.Scope.TheVariants.{Part}
use Rattle.pst_ast.specs.declared.scope_declaration.Sort.{Sort}
use Rattle.pst_ast.specs.Declarations.{declarations}
use Rattle.pst_ast.specs.Sorts.{same_scope}
use Rattle.pst_ast.specs.Lookups.{base_of}
use Rattle.pst_type_rules.specs.Sites.{DeclaredAction, action_at}

-- ---- members

abbrev pub those_that : (Sort → Bool) → List Declaration → List Declaration
those_that test ds = filter (λ d. test d.sort) ds

-- what is declared in the scope of a type
abbrev pub own_members : List Declaration → Declaration → List Declaration
own_members ds type = filter (λ m. same_scope m.scope (Part type.name.place)) ds

-- the members of a type, those of its base first
pub data AreMembers (ds : List Declaration) : Declaration → List Declaration → Type 0 where
  WithoutBase : (d : Declaration) → base_of ds d ≡ None → AreMembers ds d (own_members ds d)
  WithBase : (d base : Declaration) (members : List Declaration) → base_of ds d ≡ Some base → AreMembers ds base members → AreMembers ds d (members ++ own_members ds d)

-- an action itself, or one that is derived from it in one step or more
pub data IsOrDerives (ds : List Declaration) : Declaration → Declaration → Type 0 where
  Itself : (d : Declaration) → IsOrDerives ds d d
  Derives : (d base from : Declaration) → base_of ds d ≡ Some base → IsOrDerives ds base from → IsOrDerives ds d from

-- ---- activities

abbrev pub activities_in : ActionPartTree → List (List StatementTree)
activities_in (ActionPartActivity (MakeActivity word left statements right)) = statements ∷ []
activities_in _ = []

abbrev pub bodies_in : ActionPartTree → List BodyTree
bodies_in (ActionPartBody body) = body ∷ []
bodies_in _ = []

-- the statements of an action's own activities, and its own bodies
abbrev pub activities_of : DeclaredAction → List (List StatementTree)
activities_of a = flat_map activities_in a.parts

abbrev pub bodies_of : DeclaredAction → List BodyTree
bodies_of a = flat_map bodies_in a.parts

-- An action has an activity with these statements: its own, or where it has neither an activity nor a body, that of its base.
pub data IsCompound (units : List UnitTree) : Declaration → List StatementTree → Type 0 where
  Own : (d : Declaration) (a : DeclaredAction) (statements : List StatementTree) (more : List (List StatementTree)) → action_at units d.name.place ≡ Some a
      → activities_of a ≡ statements ∷ more → IsCompound units d statements
  Inherited : (d base : Declaration) (a : DeclaredAction) (statements : List StatementTree) → action_at units d.name.place ≡ Some a → activities_of a ≡ [] → bodies_of a ≡ []
      → base_of (declarations units) d ≡ Some base → IsCompound units base statements → IsCompound units d statements

-- An action has two activities, two bodies, or one of each: of its own, or where it has neither an activity nor a body, those of its base.
pub data IsTwofold (units : List UnitTree) : Declaration → Type 0 where
  TwoActivities : (d : Declaration) (a : DeclaredAction) (first second : List StatementTree) (more : List (List StatementTree)) → action_at units d.name.place ≡ Some a → activities_of a ≡ first ∷ second ∷ more
      → IsTwofold units d
  TwoBodies : (d : Declaration) (a : DeclaredAction) (first second : BodyTree) (more : List BodyTree) → action_at units d.name.place ≡ Some a → bodies_of a ≡ first ∷ second ∷ more → IsTwofold units d
  ActivityAndBody : (d : Declaration) (a : DeclaredAction) (activity : List StatementTree) (body : BodyTree) (activities : List (List StatementTree)) (bodies : List BodyTree) → action_at units d.name.place ≡ Some a
      → activities_of a ≡ activity ∷ activities → bodies_of a ≡ body ∷ bodies → IsTwofold units d
  TwofoldBase : (d base : Declaration) (a : DeclaredAction) → action_at units d.name.place ≡ Some a → activities_of a ≡ [] → bodies_of a ≡ [] → base_of (declarations units) d ≡ Some base → IsTwofold units base
      → IsTwofold units d
