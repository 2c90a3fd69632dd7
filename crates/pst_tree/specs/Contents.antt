-- What an action does: its own activity or body, or else that of its nearest base that has one.
use Rattle.std.specs.Prelude.{List, [], ◌∷◌, Bool, true, false, Option, Some, None}
use Rattle.std.specs.List.{filter_map}
use Rattle.std.specs.Option.{option_map, option_or, option_and_then}
use Rattle.pst_ast.specs.ActivityTree.{ActivityTree}
use Rattle.pst_ast.specs.BodyTree.{BodyTree}
use Rattle.pst_ast.specs.DeclarationTree.{UnitTree, ActionPartTree, ActionPartActivity, ActionPartBody}
use Rattle.pst_ast.specs.declared.scope_declaration.Declaration.{Declaration}
use Rattle.pst_ast.specs.Declarations.{declarations}
use Rattle.pst_type_rules.specs.Sites.{DeclaredAction, action_at}
use Rattle.pst_tree.specs.Bases.{with_bases}

-- with the action in whose text it stands
pub data Content : Type 0 where
  Activity : (action : Declaration) (activity : ActivityTree) → Content
  Body : (action : Declaration) (body : BodyTree) → Content

abbrev pub activity_in : ActionPartTree → Option ActivityTree
activity_in (ActionPartActivity activity) = Some activity
activity_in _ = None

abbrev pub body_in : ActionPartTree → Option BodyTree
body_in (ActionPartBody body) = Some body
body_in _ = None

abbrev pub first_of : {X : Type 0} → List X → Option X
first_of [] = None
first_of (x ∷ more) = Some x

-- the first activity of an action's own text, or else the first body
abbrev pub content_in : Declaration → DeclaredAction → Option Content
content_in d a = option_or (option_map (Activity d) (first_of (filter_map activity_in a.parts))) (option_map (Body d) (first_of (filter_map body_in a.parts)))

abbrev pub own_content : List UnitTree → Declaration → Option Content
own_content units d = option_and_then (content_in d) (action_at units d.name.place)

-- the last of some types that has one
abbrev pub last_content : List UnitTree → List Declaration → Option Content
last_content units [] = None
last_content units (d ∷ more) = option_or (last_content units more) (own_content units d)

-- none for an action that does nothing
abbrev pub content_of : List UnitTree → Declaration → Option Content
content_of units d = last_content units (with_bases (declarations units) d)

-- an action is compound where it has an activity, its own or its base's, and else atomic
abbrev pub is_activity : Option Content → Bool
is_activity (Some (Activity action activity)) = true
is_activity _ = false

abbrev pub is_compound : List UnitTree → Declaration → Bool
is_compound units d = is_activity (content_of units d)
