-- What actions do is found from what they and their bases do themselves.
use Rattle.std.proofs.Common.{◌≡◌, refl, sym, ap, ◌∙◌, cond}
use Rattle.std.specs.Prelude.{Bool, true, false, not, List, [], ◌∷◌, map, Option, Some, None, is_some, if◌then◌else◌}
use Rattle.std.specs.List.{find, filter_map, list_any}
use Rattle.std.specs.Option.{option_map, option_map_or, option_or, option_and_then}
use Rattle.pst_ast.specs.ActivityTree.{ActivityTree}
use Rattle.pst_ast.specs.BodyTree.{BodyTree}
use Rattle.pst_ast.specs.DeclarationTree.{UnitTree, ActionPartTree, ActionPartField, ActionPartReference, ActionPartClaim, ActionPartMembers, ActionPartConstraint, ActionPartActivity, ActionPartBody, ActionPartEmpty}
use Rattle.pst_base.specs.declared.position.Place.{Place}
use Rattle.pst_ast.specs.declared.scope_declaration.Declaration.{Declaration}
use Rattle.pst_ast.specs.Sorts.{same_place}
use Rattle.pst_type_rules.specs.Sites.{DeclaredAction, action_at, actions}
use Rattle.pst_tree.specs.declared.sites.ActionSite.{ActionSite}
use Rattle.pst_tree.specs.declared.sites.ContentSort.{ContentSort}
use Rattle.pst_tree.specs.declared.sites.ContentSort.TheVariants as sort
use Rattle.pst_tree.specs.Contents.{Content, Activity, Body, activity_in, body_in, first_of, content_in, own_content, last_content, is_activity}
use Rattle.pst_tree.specs.InheritedFound.{is_activity_part, is_body_part, content_sort, is_concrete_by, own_sort, after, compound_from, site_of}

sort_of : Option Content → Option ContentSort
sort_of None = None
sort_of (Some (Activity d a)) = Some sort.Activity
sort_of (Some (Body d b)) = Some sort.Body

activity_first : (parts : List ActionPartTree) → is_some (first_of (filter_map activity_in parts)) ≡ list_any is_activity_part parts
activity_first [] = refl
activity_first (ActionPartField x ∷ more) = activity_first more
activity_first (ActionPartReference x ∷ more) = activity_first more
activity_first (ActionPartClaim x ∷ more) = activity_first more
activity_first (ActionPartMembers x ∷ more) = activity_first more
activity_first (ActionPartConstraint x ∷ more) = activity_first more
activity_first (ActionPartActivity x ∷ more) = refl
activity_first (ActionPartBody x ∷ more) = activity_first more
activity_first (ActionPartEmpty x ∷ more) = activity_first more

body_first : (parts : List ActionPartTree) → is_some (first_of (filter_map body_in parts)) ≡ list_any is_body_part parts
body_first [] = refl
body_first (ActionPartField x ∷ more) = body_first more
body_first (ActionPartReference x ∷ more) = body_first more
body_first (ActionPartClaim x ∷ more) = body_first more
body_first (ActionPartMembers x ∷ more) = body_first more
body_first (ActionPartConstraint x ∷ more) = body_first more
body_first (ActionPartActivity x ∷ more) = body_first more
body_first (ActionPartBody x ∷ more) = refl
body_first (ActionPartEmpty x ∷ more) = body_first more

by_firsts : (d : Declaration) (a : Option ActivityTree) (b : Option BodyTree)
    → sort_of (option_or (option_map (Activity d) a) (option_map (Body d) b)) ≡ (if is_some a then Some sort.Activity else (if is_some b then Some sort.Body else None))
unfolding sort_of
by_firsts d (Some a) b = refl
by_firsts d None (Some b) = refl
by_firsts d None None = refl

sort_in : (d : Declaration) (a : DeclaredAction) → sort_of (content_in d a) ≡ content_sort a.parts
sort_in d a =
    by_firsts d (first_of (filter_map activity_in a.parts)) (first_of (filter_map body_in a.parts))
    ∙ (λ i. if activity_first a.parts i then Some sort.Activity else (if body_first a.parts i then Some sort.Body else None))

sort_at : (d : Declaration) (o : Option DeclaredAction) → sort_of (option_and_then (content_in d) o) ≡ option_and_then (λ a. content_sort a.parts) o
unfolding sort_of
sort_at d None = refl
sort_at d (Some a) = sort_in d a

-- an action is found by its place
site_found : (place : Place) (xs : List DeclaredAction) → find (λ (s : ActionSite). same_place s.place place) (map site_of xs) ≡ option_map site_of (find (λ (a : DeclaredAction). same_place a.name.place place) xs)
site_found place [] = refl
site_found place (a ∷ more) = by_test (same_place a.name.place place) (site_found place more)
  where
    by_test : (b : Bool) → find (λ (s : ActionSite). same_place s.place place) (map site_of more) ≡ option_map site_of (find (λ (x : DeclaredAction). same_place x.name.place place) more)
        → cond b (Some (site_of a)) (find (λ (s : ActionSite). same_place s.place place) (map site_of more)) ≡ option_map site_of (cond b (Some a) (find (λ (x : DeclaredAction). same_place x.name.place place) more))
    by_test true e = refl
    by_test false e = e

at_place : (units : List UnitTree) (place : Place) → find (λ (s : ActionSite). same_place s.place place) (map site_of (actions units)) ≡ option_map site_of (action_at units place)
unfolding action_at
at_place units place = site_found place (actions units)

own_sorts : (units : List UnitTree) (d : Declaration) → sort_of (own_content units d) ≡ own_sort (map site_of (actions units)) d
own_sorts units d =
    sort_at d (action_at units d.name.place) ∙ sites_sort (action_at units d.name.place) ∙ sym (ap (λ (o : Option ActionSite). option_and_then (λ s. s.content) o) (at_place units d.name.place))
  where
    sites_sort : (o : Option DeclaredAction) → option_and_then (λ a. content_sort a.parts) o ≡ option_and_then (λ s. s.content) (option_map site_of o)
    sites_sort None = refl
    sites_sort (Some a) = refl

compound_or : Bool → Option Content → Bool
compound_or compound None = compound
compound_or compound (Some (Activity d a)) = true
compound_or compound (Some (Body d b)) = false

after_own : (compound : Bool) (o : Option Content) → after compound (sort_of o) ≡ compound_or compound o
unfolding sort_of compound_or
after_own compound None = refl
after_own compound (Some (Activity d a)) = refl
after_own compound (Some (Body d b)) = refl

either : (compound : Bool) (later own : Option Content) → compound_or (compound_or compound own) later ≡ compound_or compound (option_or later own)
unfolding compound_or
either compound None own = refl
either compound (Some (Activity d a)) own = refl
either compound (Some (Body d b)) own = refl

found_from : (units : List UnitTree) (compound : Bool) (bases : List Declaration) → compound_from (map site_of (actions units)) compound bases ≡ compound_or compound (last_content units bases)
unfolding compound_or
found_from units compound [] = refl
found_from units compound (d ∷ more) =
    found_from units (after compound (own_sort (map site_of (actions units)) d)) more
    ∙ ap (λ (b : Bool). compound_or b (last_content units more)) (ap (after compound) (sym (own_sorts units d)) ∙ after_own compound (own_content units d))
    ∙ either compound (last_content units more) (own_content units d)

or_false : (o : Option Content) → compound_or false o ≡ is_activity o
unfolding compound_or
or_false None = refl
or_false (Some (Activity d a)) = refl
or_false (Some (Body d b)) = refl

pub content_found : (units : List UnitTree) (bases : List Declaration) → compound_from (map site_of (actions units)) false bases ≡ is_activity (last_content units bases)
content_found units bases = found_from units false bases ∙ or_false (last_content units bases)

pub concrete_found : (units : List UnitTree) (d : Declaration) → is_concrete_by (map site_of (actions units)) d ≡ option_map_or (λ a. not a.is_abstract) (action_at units d.name.place) false
concrete_found units d = ap (λ (o : Option ActionSite). option_map_or (λ s. not s.is_abstract) o false) (at_place units d.name.place) ∙ by_site (action_at units d.name.place)
  where
    by_site : (o : Option DeclaredAction) → option_map_or (λ s. not s.is_abstract) (option_map site_of o) false ≡ option_map_or (λ a. not a.is_abstract) o false
    by_site None = refl
    by_site (Some a) = refl
