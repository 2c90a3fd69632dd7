-- Groups of members, and the types that declare any of them.
use Rattle.std.specs.Prelude.{◌≡◌, Vec, Bool, false, ◌||◌, List, [], ◌∷◌}
use Rattle.std.specs.declared.alloc.Global.{Global}
use Rattle.std.specs.List.{flat_map}
use Rattle.pst_base.specs.declared.position.Place.{Place}
use Rattle.pst_ast.specs.declared.scope_declaration.Declaration.{Declaration}
use Rattle.pst_ast.specs.declared.scope_declaration.Scope.{Scope}
use Rattle.pst_ast.specs.declared.scope_declaration.Scope.TheVariants.{Files, Part}
use Rattle.pst_ast.specs.declared.scope_declaration.Sort.{Sort}
use Rattle.pst_ast.specs.Sorts.{is_field, is_reference, is_claim, is_handle}
use Rattle.pst_type_rules.specs.Members.{those_that}
use Rattle.pst_tree.specs.Bases.{members_that}
use Rattle.pst_tree.specs.Needed.{needs_within}
use Rattle.pst_marked_bases.specs.Shown.{Shown}
use Rattle.pst_member_bases.specs.declared.groups.MemberGroup.{MemberGroup}
use Rattle.pst_member_bases.specs.declared.groups.MemberGroup.TheVariants as group

abbrev pub is_in_group : MemberGroup → Sort → Bool
is_in_group group.Handles s = is_handle s
is_in_group group.Others s = is_field s || (is_reference s || is_claim s)

abbrev pub places_in : Scope → List Place
places_in Files = []
places_in (Part place) = place ∷ []

-- the places of the types in whose scopes declarations stand
abbrev pub scopes_of : List Declaration → List Place
scopes_of ds = flat_map (λ d. places_in d.scope) ds

-- the types that declare members of a group are marked
abbrev pub AreBasesWith : MemberGroup → List Declaration → Shown → Type 0
AreBasesWith g ds shown = shown ≡ record { places = scopes_of (those_that (is_in_group g) ds); declared = ds }

-- the sorts of a group
abbrev pub IsWithin : MemberGroup → (Sort → Bool) → Type 0
IsWithin g test = (s : Sort) → is_in_group g s ≡ false → test s ≡ false

-- these types declare all members of a type that are of a group, in their order
abbrev pub AreListedBy : MemberGroup → List Declaration → Declaration → Vec Declaration Global → Type 0
AreListedBy g ds d bases = (test : Sort → Bool) → IsWithin g test → flat_map (needs_within test ds) bases.items ≡ members_that test ds d
