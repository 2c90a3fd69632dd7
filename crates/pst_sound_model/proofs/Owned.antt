-- Members that are found by their names, and their numbers.
use Rattle.std.proofs.Common.{◌≡◌, ◌⊎◌, inl, inr, refl, sym, ap, subst, arith, ◌∙◌}
use Rattle.std.specs.Prelude.{ℕ, zero, suc, ◌+◌, nat_eq, Bool, true, false, not, ◌&&◌, List, [], ◌∷◌, length, slice_get, Option, Some, None, cond}
use Rattle.std.specs.Option.{option_or, option_and_then, option_map_or}
use Rattle.std.proofs.lemmas.Bool.{false≢true, eq-eqb}
use Rattle.std.proofs.lemmas.Option.{none-some}
use Rattle.pst_base.specs.declared.table.NameId.{NameId}
use Rattle.pst_ast.specs.declared.scope_declaration.Declaration.{Declaration}
use Rattle.pst_ast.specs.declared.scope_declaration.Scope.{Scope}
use Rattle.pst_ast.specs.declared.scope_declaration.Scope.TheVariants.{Part}
use Rattle.pst_ast.specs.declared.scope_declaration.Sort.{Sort}
use Rattle.pst_ast.specs.Sorts.{same_scope, same_name, same_place, is_field}
use Rattle.pst_ast.specs.Lookups.{look_up, base_of, member_within, member_of, field_of}
use Rattle.pst_type_rules.specs.Members.{those_that, own_members}
use Rattle.pst_tree.specs.Bases.{bases_within, with_bases, members, members_that, fields_of, number_in}
use Rattle.pst_sound_model.proofs.Members.{In, in_find, in_filter, in_flat_map, to_filter, to_flat_map, to_left, to_right}

pub both_true : (a b : Bool) → (a && b) ≡ true → (a ≡ true) × (b ≡ true)
both_true true true e = (refl, refl)
both_true true false e = absurd (false≢true e)
both_true false b e = absurd (false≢true e)

pub and_true : (a b : Bool) → a ≡ true → b ≡ true → (a && b) ≡ true
and_true a b p q = ap (λ (c : Bool). c && b) p ∙ q

-- ---- members by their names

pub looked_up : (ds : List Declaration) (scope : Scope) (name : NameId) (d : Declaration) → look_up ds scope name ≡ Some d → In d ds × (same_scope d.scope scope ≡ true) × (same_name d.name.id name ≡ true)
unfolding look_up
looked_up ds scope name d e =
    let found = in_find (λ d. same_scope d.scope scope && same_name d.name.id name) ds d e in
    let both = both_true (same_scope d.scope scope) (same_name d.name.id name) found.1 in (found.0, both.0, both.1)

pub own_member : (ds : List Declaration) (type d : Declaration) → In d ds → same_scope d.scope (Part type.name.place) ≡ true → In d (own_members ds type)
own_member ds type d there same = to_filter (λ m. same_scope m.scope (Part type.name.place)) ds d there same

-- a member that is found, where it is declared
pub record IsMember (ds : List Declaration) (k : ℕ) (type : Declaration) (name : NameId) (d : Declaration) : Type 0 where
  pub from : Declaration
  pub base : In from (bases_within k ds type)
  pub own : In d (own_members ds from)
  pub there : In d ds
  pub scope : same_scope d.scope (Part from.name.place) ≡ true
  pub named : same_name d.name.id name ≡ true

pub member_found : (ds : List Declaration) (k : ℕ) (type : Declaration) (name : NameId) (d : Declaration) → member_within k ds type name ≡ Some d → IsMember ds k type name d
member_found ds zero type name d e = absurd (none-some d e)
member_found ds (suc k) type name d e = by (look_up ds (Part type.name.place) name) refl (base_of ds type) refl e (λ b. member_found ds k b name d)
  where
    here : look_up ds (Part type.name.place) name ≡ Some d → IsMember ds (suc k) type name d
    here is = let l = looked_up ds (Part type.name.place) name d is in
        record { from = type; base = to_right (option_map_or (bases_within k ds) (base_of ds type) []) (type ∷ []) type (inl refl); own = own_member ds type d l.0 l.1; there = l.0; scope = l.1; named = l.2 }

    above : (b : Declaration) → base_of ds type ≡ Some b → IsMember ds k b name d → IsMember ds (suc k) type name d
    above b is m = record {
      from = m.from;
      base = to_left (option_map_or (bases_within k ds) (base_of ds type) []) (type ∷ []) m.from (subst (λ (o : Option Declaration). In m.from (option_map_or (bases_within k ds) o [])) (sym is) m.base);
      own = m.own;
      there = m.there;
      scope = m.scope;
      named = m.named;
    }

    by : (o : Option Declaration) → look_up ds (Part type.name.place) name ≡ o → (p : Option Declaration) → base_of ds type ≡ p → option_or o (option_and_then (λ b. member_within k ds b name) p) ≡ Some d
        → ((b : Declaration) → member_within k ds b name ≡ Some d → IsMember ds k b name d) → IsMember ds (suc k) type name d
    by (Some x) is p from e on = here (is ∙ e)
    by None is (Some b) from e on = above b from (on b e)
    by None is None from e on = absurd (none-some d e)

pub member_is : (ds : List Declaration) (type : Declaration) (name : NameId) (d : Declaration) → member_of ds type name ≡ Some d → IsMember ds (length ds) type name d
unfolding member_of
member_is ds type name d e = member_found ds (length ds) type name d e

pub among_members : (ds : List Declaration) (type : Declaration) (name : NameId) (d : Declaration) → IsMember ds (length ds) type name d → In d (members ds type)
unfolding with_bases
among_members ds type name d m = to_flat_map (own_members ds) (bases_within (length ds) ds type) m.from d m.base m.own

pub of_sort : (ds : List Declaration) (type : Declaration) (name : NameId) (d : Declaration) (test : Sort → Bool) → member_of ds type name ≡ Some d → test d.sort ≡ true → In d (members_that test ds type)
of_sort ds type name d test e is = to_filter (λ x. test x.sort) (members ds type) d (among_members ds type name d (member_is ds type name d e)) is

last_base : (k : ℕ) (ds : List Declaration) (type : Declaration) → In type (bases_within (suc k) ds type)
last_base k ds type = to_right (option_map_or (bases_within k ds) (base_of ds type) []) (type ∷ []) type (inl refl)

with_itself : (ds : List Declaration) (type d : Declaration) → In d ds → In type (with_bases ds type)
unfolding with_bases
with_itself [] type d there = absurd there
with_itself (x ∷ more) type d there = last_base (length more) (x ∷ more) type

-- a field of an object by its name
pub field_found : (ds : List Declaration) (type : Declaration) (name : NameId) (d : Declaration) → field_of ds type name ≡ Some d → In d (fields_of ds type) × (is_field d.sort ≡ true)
field_found ds type name d e =
    let found = in_find (λ d. same_scope d.scope (Part type.name.place) && (same_name d.name.id name && is_field d.sort)) ds d e in
    let one = both_true (same_scope d.scope (Part type.name.place)) (same_name d.name.id name && is_field d.sort) found.1 in
    let two = both_true (same_name d.name.id name) (is_field d.sort) one.1 in
    (to_filter (λ x. is_field x.sort) (members ds type) d (to_flat_map (own_members ds) (with_bases ds type) type d (with_itself ds type d found.0) (own_member ds type d found.0 one.0)) two.1, two.1)

-- ---- numbers

-- what is declared at the place of a declaration of a list is that declaration
abbrev pub HasOwnPlace : List Declaration → Declaration → Type 0
HasOwnPlace list d = (e : Declaration) → In e list → same_place e.name.place d.name.place ≡ true → e ≡ d

pub same_itself : (d : Declaration) → same_place d.name.place d.name.place ≡ true
same_itself d =
    and_true (nat_eq d.name.place.file d.name.place.file) (nat_eq d.name.place.line d.name.place.line && nat_eq d.name.place.column d.name.place.column) (eq-eqb d.name.place.file d.name.place.file refl)
    (and_true (nat_eq d.name.place.line d.name.place.line) (nat_eq d.name.place.column d.name.place.column) (eq-eqb d.name.place.line d.name.place.line refl) (eq-eqb d.name.place.column d.name.place.column refl))

pub not_first : (m d : Declaration) (more : List Declaration) → (m ≡ d) ⊎ In d more → same_place m.name.place d.name.place ≡ false → In d more
not_first m d more (inl e) other = absurd (false≢true (sym other ∙ (ap (λ (x : Declaration). same_place x.name.place d.name.place) e ∙ same_itself d)))
not_first m d more (inr h) other = h

number_by : (b : Bool) (m d : Declaration) (more : List Declaration) → same_place m.name.place d.name.place ≡ b → (same_place m.name.place d.name.place ≡ true → m ≡ d) → (same_place m.name.place d.name.place ≡ false → slice_get more (number_in more d) ≡ Some d)
    → slice_get (m ∷ more) (cond (not b) (1 + number_in more d) 0) ≡ Some d
number_by true m d more e is on = ap (λ (x : Declaration). Some x) (is e)
number_by false m d more e is on = let next : suc (number_in more d) ≡ 1 + number_in more d = omega arith in subst (λ (k : ℕ). slice_get (m ∷ more) k ≡ Some d) next (on e)

pub numbered : (list : List Declaration) (d : Declaration) → In d list → HasOwnPlace list d → slice_get list (number_in list d) ≡ Some d
numbered [] d there own = absurd there
numbered (m ∷ more) d there own = number_by (same_place m.name.place d.name.place) m d more refl (own m (inl refl)) (λ other. numbered more d (not_first m d more there other) (λ e h. own e (inr h)))

-- ---- members are declared

pub own_declared : (ds : List Declaration) (type d : Declaration) → In d (own_members ds type) → In d ds × (same_scope d.scope (Part type.name.place) ≡ true)
own_declared ds type d there = in_filter (λ m. same_scope m.scope (Part type.name.place)) ds d there

pub those_declared : (test : Sort → Bool) (list : List Declaration) (d : Declaration) → In d (those_that test list) → In d list × (test d.sort ≡ true)
those_declared test list d there = in_filter (λ x. test x.sort) list d there

pub member_declared : (test : Sort → Bool) (ds : List Declaration) (type d : Declaration) → In d (members_that test ds type) → In d ds × (test d.sort ≡ true)
member_declared test ds type d there =
    let one = those_declared test (members ds type) d there in
    let two = in_flat_map (own_members ds) (with_bases ds type) d one.0 in ((own_declared ds two.0 d two.2).0, one.1)
