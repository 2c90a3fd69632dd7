-- Actions as they are found in the sources.
use Rattle.std.specs.Prelude.{Bool, true, false, not, ◌∷◌, [], List, Option, Some, None, if◌then◌else◌}
use Rattle.std.specs.List.{find, list_any}
use Rattle.std.specs.Option.{option_or, option_map_or, option_and_then}
use Rattle.pst_base.specs.declared.position.Place.{Place}
use Rattle.pst_ast.specs.DeclarationTree.{ActionPartTree, ActionPartActivity, ActionPartBody}
use Rattle.pst_ast.specs.declared.scope_declaration.Declaration.{Declaration}
use Rattle.pst_ast.specs.Sorts.{same_place}
use Rattle.pst_tree.specs.declared.key.PlaceKey.{PlaceKey}
use Rattle.pst_tree.specs.Members.{place_of}
use Rattle.pst_type_rules.specs.Sites.{DeclaredAction}
use Rattle.pst_tree.specs.declared.sites.ActionSite.{ActionSite}
use Rattle.pst_tree.specs.declared.sites.ContentSort.{ContentSort}
use Rattle.pst_tree.specs.declared.sites.ContentSort.TheVariants as sort

abbrev pub is_activity_part : ActionPartTree → Bool
is_activity_part (ActionPartActivity activity) = true
is_activity_part _ = false

abbrev pub is_body_part : ActionPartTree → Bool
is_body_part (ActionPartBody body) = true
is_body_part _ = false

-- what an action with these parts does itself
abbrev pub content_sort : List ActionPartTree → Option ContentSort
content_sort parts = if list_any is_activity_part parts then Some sort.Activity else (if list_any is_body_part parts then Some sort.Body else None)

abbrev pub site_of : DeclaredAction → ActionSite
site_of a = record { place = a.name.place; is_abstract = a.is_abstract; content = content_sort a.parts }

abbrev pub is_site_at : PlaceKey → ActionSite → Bool
is_site_at q s = same_place s.place (place_of q)

-- what was found, or else the next, where it is found too
abbrev pub or_site : Option ActionSite → Bool → ActionSite → Option ActionSite
or_site found next s = option_or found (if next then Some s else None)

-- the action whose name stands at a place
abbrev pub site_at : List ActionSite → Place → Option ActionSite
site_at sites place = find (λ s. same_place s.place place) sites

abbrev pub is_concrete_by : List ActionSite → Declaration → Bool
is_concrete_by sites d = option_map_or (λ s. not s.is_abstract) (site_at sites d.name.place) false

abbrev pub own_sort : List ActionSite → Declaration → Option ContentSort
own_sort sites d = option_and_then (λ s. s.content) (site_at sites d.name.place)

-- ---- with bases

abbrev pub after : Bool → Option ContentSort → Bool
after compound None = compound
after compound (Some sort.Activity) = true
after compound (Some sort.Body) = false

-- whether an action is compound, where it is so before these bases
abbrev pub compound_from : List ActionSite → Bool → List Declaration → Bool
compound_from sites compound [] = compound
compound_from sites compound (d ∷ more) = compound_from sites (after compound (own_sort sites d)) more
