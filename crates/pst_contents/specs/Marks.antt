-- The actions that have an activity or a body in their own text.
use Rattle.std.specs.Prelude.{Bool, ◌||◌, false, List, map, is_some}
use Rattle.std.specs.List.{filter, filter_map}
use Rattle.std.specs.Option.{option_map_or}
use Rattle.pst_base.specs.declared.position.Place.{Place}
use Rattle.pst_ast.specs.DeclarationTree.{UnitTree}
use Rattle.pst_ast.specs.Declarations.{declarations}
use Rattle.pst_type_rules.specs.Sites.{DeclaredAction, actions, action_at}
use Rattle.pst_tree.specs.Contents.{activity_in, body_in, first_of}
use Rattle.pst_marked_bases.specs.Shown.{Shown}
use Rattle.pst_terms.specs.Sources.{Sources}

-- whether an action has an activity or a body in its own text
abbrev pub has_own : DeclaredAction → Bool
has_own a = is_some (first_of (filter_map activity_in a.parts)) || is_some (first_of (filter_map body_in a.parts))

-- the same of the action whose name stands at a place
abbrev pub has_content : List UnitTree → Place → Bool
has_content units place = option_map_or has_own (action_at units place) false

-- these actions are marked
abbrev pub content_bases_in : List UnitTree → Shown
content_bases_in units = record { places = filter (has_content units) (map (λ a. a.name.place) (actions units)); declared = declarations units }

abbrev pub content_bases : Sources → Shown
content_bases s = content_bases_in s.units
