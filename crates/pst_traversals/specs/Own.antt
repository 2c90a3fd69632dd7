-- The own activity of an action, and whether it has a body of its own.
use Rattle.std.specs.Prelude.{List, [], ◌∷◌, Bool, true, false, Option, Some, None}
use Rattle.pst_ast.specs.ActivityTree.{StatementTree}
use Rattle.pst_type_rules.specs.Sites.{DeclaredAction}
use Rattle.pst_type_rules.specs.Members.{activities_of, bodies_of}

abbrev pub first_in : {X : Type 0} → List X → Option X
first_in [] = None
first_in (x ∷ more) = Some x

abbrev pub has_any : {X : Type 0} → List X → Bool
has_any [] = false
has_any (x ∷ more) = true

-- the statements of its first activity
abbrev pub own_activity : DeclaredAction → Option (List StatementTree)
own_activity a = first_in (activities_of a)

abbrev pub has_body : DeclaredAction → Bool
has_body a = has_any (bodies_of a)
