-- Types that declare no member of a group add none of its sorts.
use Rattle.std.proofs.Common.{◌≡◌, refl, sym, ap, ◌∙◌}
use Rattle.std.specs.Prelude.{Bool, true, false, List, [], ◌∷◌, ◌++◌, Result, Ok, Err, IfOk, if◌then◌else◌}
use Rattle.std.specs.List.{filter, flat_map, list_any}
use Rattle.std.proofs.lemmas.List.Elements.{filter-append}
use Rattle.pst_base.specs.declared.position.Place.{Place}
use Rattle.pst_ast.specs.declared.scope_declaration.Declaration.{Declaration}
use Rattle.pst_ast.specs.declared.scope_declaration.Scope.{Scope}
use Rattle.pst_ast.specs.declared.scope_declaration.Scope.TheVariants.{Files, Part}
use Rattle.pst_ast.specs.declared.scope_declaration.Sort.{Sort}
use Rattle.pst_ast.specs.Sorts.{same_place, same_scope}
use Rattle.pst_type_rules.specs.Members.{those_that, own_members}
use Rattle.pst_tree.specs.Bases.{members_that, with_bases}
use Rattle.pst_tree.specs.Needed.{needs_within}
use Rattle.pst_marked_bases.specs.Marked.{is_marked, marked_bases}
use Rattle.pst_marked_bases.proofs.Among.{is_among, neither}
use Rattle.pst_marked_bases.proofs.Skipping.{skipped}
use Rattle.pst_marked_bases.specs.Shown.{Shown}
use Rattle.pst_member_bases.specs.declared.groups.MemberGroup.{MemberGroup}
use Rattle.pst_member_bases.specs.Grouped.{AreBasesWith, IsWithin, is_in_group, places_in, scopes_of}

-- ---- members of one sort are those of each base

those_of_each : (test : Sort → Bool) (ds bases : List Declaration) → those_that test (flat_map (own_members ds) bases) ≡ flat_map (needs_within test ds) bases
those_of_each test ds [] = refl
those_of_each test ds (d ∷ more) =
    filter-append (λ x. test x.sort) (own_members ds d) (flat_map (own_members ds) more) ∙ ap (λ (xs : List Declaration). needs_within test ds d ++ xs) (those_of_each test ds more)

-- ---- types that declare none

module _ (test wide : Sort → Bool) (within : (s : Sort) → wide s ≡ false → test s ≡ false) (p : Place) where
  abbrev any : List Place → Bool
  any places = list_any (λ q. same_place q p) places

  abbrev here : Declaration → Bool
  here d = same_scope d.scope (Part p)

  -- a member that is not of the group
  other : (x : Declaration) (own : Bool) (kept : List Declaration) → wide x.sort ≡ false → those_that test (if own then x ∷ kept else kept) ≡ those_that test kept
  other x true kept out = ap (λ (b : Bool). if b then x ∷ those_that test kept else those_that test kept) (within x.sort out)
  other x false kept out = refl

  -- one of the group, which stands in another scope
  elsewhere : (scope : Scope) (x : Declaration) (places : List Place) (kept : List Declaration) → any (places_in scope ++ places) ≡ false → (any places ≡ false → those_that test kept ≡ [])
      → those_that test (if same_scope scope (Part p) then x ∷ kept else kept) ≡ []
  elsewhere Files x places kept e none = none e
  elsewhere (Part q) x places kept e none =
      let two = neither (same_place q p) (any places) e in
      ap (λ (b : Bool). those_that test (if b then x ∷ kept else kept)) two.0 ∙ none two.1

  outside_next : (b : Bool) (x : Declaration) (xs : List Declaration) → wide x.sort ≡ b → any (scopes_of (if b then x ∷ those_that wide xs else those_that wide xs)) ≡ false
      → (any (scopes_of (those_that wide xs)) ≡ false → those_that test (filter here xs) ≡ []) → those_that test (if here x then x ∷ filter here xs else filter here xs) ≡ []
  outside_next true x xs is e none = elsewhere x.scope x (scopes_of (those_that wide xs)) (filter here xs) e none
  outside_next false x xs is e none = other x (here x) (filter here xs) is ∙ none e

  pub outside : (xs : List Declaration) → any (scopes_of (those_that wide xs)) ≡ false → those_that test (filter here xs) ≡ []
  outside [] e = refl
  outside (x ∷ xs) e = outside_next (wide x.sort) x xs refl e (outside xs)

-- ---- the marked bases have all members

module _ (test wide : Sort → Bool) (within : (s : Sort) → wide s ≡ false → test s ≡ false) (ds : List Declaration) where
  none_within : (d : Declaration) → is_marked (scopes_of (those_that wide ds)) d ≡ false → needs_within test ds d ≡ []
  none_within d un = outside test wide within d.name.place ds (sym (is_among (scopes_of (those_that wide ds)) d.name.place) ∙ un)

  pub by_marked : (d : Declaration) → flat_map (needs_within test ds) (marked_bases (scopes_of (those_that wide ds)) ds d) ≡ members_that test ds d
  by_marked d = skipped (scopes_of (those_that wide ds)) (needs_within test ds) none_within (with_bases ds d) ∙ sym (those_of_each test ds (with_bases ds d))

pub if_ok : {T E : Type 0} {P Q : T → Type 0} (r : Result T E) → ((x : T) → P x → Q x) → IfOk r P → IfOk r Q
if_ok (Ok x) f h = f x h
if_ok (Err e) f h = tt

-- ---- by groups

pub listed : (g : MemberGroup) (ds : List Declaration) (shown : Shown) (d : Declaration) (found : List Declaration) → AreBasesWith g ds shown → found ≡ marked_bases shown.places shown.declared d
    → (test : Sort → Bool) → IsWithin g test → flat_map (needs_within test ds) found ≡ members_that test ds d
listed g ds shown d found are is test within =
    ap (flat_map (needs_within test ds)) (is ∙ ap (λ (x : Shown). marked_bases x.places x.declared d) are) ∙ by_marked test (is_in_group g) within ds d
