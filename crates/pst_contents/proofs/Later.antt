-- The content of an action is that of the nearest of its bases that has one.
use Rattle.std.proofs.Common.{◌≡◌, refl, sym, ap, ◌∙◌, true≢false}
use Rattle.std.specs.Prelude.{Bool, true, false, ◌||◌, ◌&&◌, List, [], ◌∷◌, map, is_some, Option, Some, None, if◌then◌else◌}
use Rattle.std.specs.List.{filter, filter_map, find, list_any}
use Rattle.std.specs.Option.{option_and_then, option_map, option_map_or, option_or}
use Rattle.pst_base.specs.declared.position.Place.{Place}
use Rattle.pst_ast.specs.ActivityTree.{ActivityTree}
use Rattle.pst_ast.specs.BodyTree.{BodyTree}
use Rattle.pst_ast.specs.DeclarationTree.{UnitTree}
use Rattle.pst_ast.specs.declared.scope_declaration.Declaration.{Declaration}
use Rattle.pst_ast.specs.Declarations.{declarations}
use Rattle.pst_ast.specs.Sorts.{same_place}
use Rattle.pst_type_rules.specs.Sites.{DeclaredAction, actions, action_at}
use Rattle.pst_tree.specs.Bases.{with_bases}
use Rattle.pst_tree.specs.Contents.{Content, Activity, Body, content_in, content_of, last_content, own_content, first_of, activity_in, body_in}
use Rattle.pst_marked_bases.specs.Marked.{is_marked, last_of}
use Rattle.pst_marked_bases.proofs.Nearest.{last_marked, marked_that}
use Rattle.pst_contents.specs.Marks.{content_bases_in, has_content, has_own}

-- ---- an action is marked where it has a content of its own

found_next : (b : Bool) (a : DeclaredAction) (found : Option DeclaredAction) (rest : Bool) → is_some found ≡ rest → is_some (if b then Some a else found) ≡ (b || rest)
found_next true a found rest e = refl
found_next false a found rest e = e

found_any : (place : Place) (all : List DeclaredAction) → is_some (find (λ a. same_place a.name.place place) all) ≡ list_any (λ q. same_place q place) (map (λ a. a.name.place) all)
found_any place [] = refl
found_any place (a ∷ more) =
    found_next (same_place a.name.place place) a (find (λ x. same_place x.name.place place) more) (list_any (λ q. same_place q place) (map (λ x. x.name.place) more)) (found_any place more)

and_true : (b : Bool) → (b && true) ≡ b
and_true true = refl
and_true false = refl

of_one_found : (found : Option DeclaredAction) → (option_map_or has_own found false && is_some found) ≡ option_map_or has_own found false
of_one_found None = refl
of_one_found (Some a) = and_true (has_own a)

either : (d : Declaration) (activity : Option ActivityTree) (body : Option BodyTree) → is_some (option_or (option_map (Activity d) activity) (option_map (Body d) body)) ≡ (is_some activity || is_some body)
either d (Some activity) body = refl
either d None (Some body) = refl
either d None None = refl

own_is : (d : Declaration) (found : Option DeclaredAction) → is_some (option_and_then (content_in d) found) ≡ option_map_or has_own found false
own_is d None = refl
own_is d (Some a) = either d (first_of (filter_map activity_in a.parts)) (first_of (filter_map body_in a.parts))

marked_is : (units : List UnitTree) (d : Declaration) → is_marked (content_bases_in units).places d ≡ is_some (own_content units d)
unfolding action_at
marked_is units d =
    let place = d.name.place in
    marked_that (has_content units) (map (λ a. a.name.place) (actions units)) d
    ∙ ap (λ (b : Bool). has_content units place && b) (sym (found_any place (actions units)))
    ∙ of_one_found (action_at units place)
    ∙ sym (own_is d (action_at units place))

-- ---- the nearest

or_none : (x : Option Content) → option_or x None ≡ x
or_none (Some x) = refl
or_none None = refl

kept : (x before : Option Content) → is_some x ≡ true → x ≡ option_or x before
kept (Some x) before e = refl
kept None before e = absurd (true≢false (sym e))

nothing : (x : Option Content) → is_some x ≡ false → x ≡ None
nothing None e = refl
nothing (Some x) e = absurd (true≢false e)

module _ (units : List UnitTree) where
  abbrev marked : Declaration → Bool
  marked = is_marked (content_bases_in units).places

  on : (d : Declaration) → marked d ≡ true → is_some (own_content units d) ≡ true
  on d e = sym (marked_is units d) ∙ e

  off : (d : Declaration) → marked d ≡ false → own_content units d ≡ None
  off d e = nothing (own_content units d) (sym (marked_is units d) ∙ e)

  behind_one : (later : Option Declaration) (d : Declaration) (found : Option Content) → ((x : Declaration) → later ≡ Some x → marked x ≡ true) → option_and_then (own_content units) later ≡ found
      → option_and_then (own_content units) (option_or later (Some d)) ≡ option_or found (own_content units d)
  behind_one None d found are e = ap (λ (o : Option Content). option_or o (own_content units d)) e
  behind_one (Some x) d found are e = kept (own_content units x) (own_content units d) (on x (are x refl)) ∙ ap (λ (o : Option Content). option_or o (own_content units d)) e

  next : (b : Bool) (d : Declaration) (more : List Declaration) → marked d ≡ b → option_and_then (own_content units) (last_of (filter marked more)) ≡ last_content units more
      → option_and_then (own_content units) (last_of (if b then d ∷ filter marked more else filter marked more)) ≡ option_or (last_content units more) (own_content units d)
  next true d more is e = behind_one (last_of (filter marked more)) d (last_content units more) (last_marked (content_bases_in units).places more) e
  next false d more is e = e ∙ sym (or_none (last_content units more)) ∙ ap (option_or (last_content units more)) (sym (off d is))

  nearest : (bases : List Declaration) → option_and_then (own_content units) (last_of (filter marked bases)) ≡ last_content units bases
  nearest [] = refl
  nearest (d ∷ more) = next (marked d) d more refl (nearest more)

  pub nearest_is : (d : Declaration) (base : Option Declaration) → base ≡ last_of (filter marked (with_bases (declarations units) d)) → option_and_then (own_content units) base ≡ content_of units d
  nearest_is d base is = ap (option_and_then (own_content units)) is ∙ nearest (with_bases (declarations units) d)
