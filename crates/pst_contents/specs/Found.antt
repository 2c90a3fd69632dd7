-- The content of an action as it is found, and the types of handles.
use Rattle.std.specs.Prelude.{ℕ, List}
use Rattle.std.specs.Option.{option_map_or}
use Rattle.pst_ast.specs.ActivityView.{view_activity}
use Rattle.pst_ast.specs.BodyView.{view_body}
use Rattle.pst_ast.specs.declared.scope_declaration.Declaration.{Declaration}
use Rattle.pst_ast.specs.Lookups.{type_of}
use Rattle.pst_tree.specs.Bases.{action_number}
use Rattle.pst_tree.specs.Contents.{Content, Activity, Body}
use Rattle.pst_contents.specs.declared.found.FoundContent.{FoundContent}
use Rattle.pst_contents.specs.declared.found.FoundContent.TheVariants as found

abbrev pub view_found : FoundContent → Content
view_found (found.Activity action activity) = Activity action (view_activity activity.now)
view_found (found.Body action body) = Body action (view_body body.now)

-- the number of the action type of a handle
abbrev pub handle_type : List Declaration → Declaration → ℕ
handle_type ds h = option_map_or (action_number ds) (type_of ds h) 0
