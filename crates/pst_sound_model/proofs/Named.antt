-- Declarations and members are found by their names.
use Rattle.std.proofs.Common.{◌≡◌, ◌⊎◌, inl, inr, refl, sym, ap, subst, arith, ◌≤◌, ◌∙◌}
use Rattle.std.specs.Prelude.{ℕ, zero, suc, ◌+◌, nat_eq, Bool, true, false, not, ◌&&◌, List, [], ◌∷◌, ◌++◌, length, Option, Some, None, is_some, if◌then◌else◌}
use Rattle.std.specs.List.{find, Contains}
use Rattle.std.specs.Option.{option_or, option_and_then, option_map_or}
use Rattle.std.proofs.lemmas.Bool.{false≢true, eqb-true, eq-eqb}
use Rattle.std.proofs.lemmas.Option.{none-some, same_Some}
use Rattle.pst_base.specs.declared.position.Place.{Place}
use Rattle.pst_base.specs.declared.table.NameId.{NameId}
use Rattle.pst_ast.specs.DeclarationTree.{UnitTree}
use Rattle.pst_ast.specs.Breaches.{IsNone}
use Rattle.pst_ast.specs.declared.scope_declaration.Declaration.{Declaration}
use Rattle.pst_ast.specs.declared.scope_declaration.Scope.{Scope}
use Rattle.pst_ast.specs.declared.scope_declaration.Scope.TheVariants.{Files, Part}
use Rattle.pst_ast.specs.declared.scope_declaration.Sort.{Sort}
use Rattle.pst_ast.specs.declared.scope_declaration.Sort.TheVariants as sort
use Rattle.pst_ast.specs.Declarations.{level_of, declarations}
use Rattle.pst_ast.specs.Lookups.{look_up, declared_at, type_named, base_in, action_beside, base_of, member_within, member_of}
use Rattle.pst_ast.specs.NameRules.{owner_of, is_in_base, NameBreach, OfDeclaration, Twice, Inherits}
use Rattle.pst_ast.specs.Sorts.{is_action, same_name, same_place, same_scope}
use Rattle.pst_tree.specs.Bases.{bases_within, with_bases, members}
use Rattle.pst_tree.proofs.InheritedDeclared.{base_there}
use Rattle.pst_type_rules.specs.Members.{own_members}
use Rattle.pst_terms.specs.Readings.{is_inner_sort}
use Rattle.pst_sound_model.specs.SoundExpressionsConditions.{HaveOwnPlaces}
use Rattle.pst_sound_model.proofs.Members.{In, in_get, in_find, in_append, in_flat_map, to_contains, from_contains}
use Rattle.pst_sound_model.proofs.Owned.{both_true, and_true, same_itself, looked_up, own_declared}
use Rattle.pst_sound_model.proofs.ConstantsIn.{same_places}
use Rattle.pst_sound_model.proofs.Typed.{some_found}
use Rattle.pst_sound_model.proofs.Levels.{IsLevelled, Inner, OfFiles, AtLevel, levelled}

-- ---- what is the same

pub same_scopes : (a b : Scope) → same_scope a b ≡ true → a ≡ b
same_scopes Files Files e = refl
same_scopes Files (Part b) e = absurd (false≢true e)
same_scopes (Part a) Files e = absurd (false≢true e)
same_scopes (Part a) (Part b) e = ap Part (same_places a b e)

pub same_place_itself : (p : Place) → same_place p p ≡ true
same_place_itself p =
    and_true (nat_eq p.file p.file) (nat_eq p.line p.line && nat_eq p.column p.column) (eq-eqb p.file p.file refl)
    (and_true (nat_eq p.line p.line) (nat_eq p.column p.column) (eq-eqb p.line p.line refl) (eq-eqb p.column p.column refl))

pub same_scope_itself : (a : Scope) → same_scope a a ≡ true
same_scope_itself Files = refl
same_scope_itself (Part p) = same_place_itself p

pub same_names : (a b : NameId) → same_name a b ≡ true → a ≡ b
same_names a b e = let same = eqb-true a.0 b.0 e in λ i. record { 0 = same i }

-- an action is no index and no local
pub action_outer : (so : Sort) → is_action so ≡ true → is_inner_sort so ≡ false
action_outer sort.Component e = refl
action_outer (sort.Action base) e = refl
action_outer (sort.Object word) e = refl
action_outer sort.Enumeration e = refl
action_outer sort.Function e = refl
action_outer (sort.Instance of) e = refl
action_outer (sort.Pool of) e = refl
action_outer (sort.Item level) e = refl
action_outer (sort.Field array) e = refl
action_outer (sort.Reference of output) e = refl
action_outer (sort.Claim of) e = refl
action_outer (sort.Handle of) e = refl
action_outer sort.Constraint e = refl
action_outer sort.Parameter e = refl
action_outer sort.Local e = absurd (false≢true e)
action_outer sort.Index e = absurd (false≢true e)

-- ---- names in scopes

module _ (units : List UnitTree) (names : List (List ℕ)) (own : HaveOwnPlaces (declarations units)) (right : IsNone (NameBreach units names)) where
  abbrev ds : List Declaration
  ds = declarations units

  pub one_place : (d e : Declaration) → In d ds → In e ds → same_place e.name.place d.name.place ≡ true → e ≡ d
  one_place d e there too same = own.places e d (to_contains ds e too) (to_contains ds d there) (same_places e.name.place d.name.place same)

  pub name_found : (d : Declaration) → In d ds → look_up ds d.scope d.name.id ≡ Some d
  unfolding look_up
  name_found d there =
      let f = some_found (λ e. same_scope e.scope d.scope && same_name e.name.id d.name.id) ds d there (and_true (same_scope d.scope d.scope) (same_name d.name.id d.name.id) (same_scope_itself d.scope) (eq-eqb d.name.id.0 d.name.id.0 refl)) in
      let found = in_find (λ e. same_scope e.scope d.scope && same_name e.name.id d.name.id) ds f.0 f.1 in
      f.1 ∙ ap (λ (x : Declaration). Some x) (one_place d f.0 there found.0 (by f.0 f.1 (same_place f.0.name.place d.name.place) refl))
    where
      by : (x : Declaration) → look_up ds d.scope d.name.id ≡ Some x → (b : Bool) → same_place x.name.place d.name.place ≡ b → b ≡ true
      by x e true is = refl
      by x e false is =
          absurd (right d.name.place 1 (OfDeclaration d 1 (to_contains ds d there)
          (Twice (ap (λ (o : Option Declaration). option_map_or (λ e. not (same_place e.name.place d.name.place)) o false) e ∙ ap not is))))

  -- a name in a scope stands for what is declared there by it
  pub found_as : (scope : Scope) (name : NameId) (d : Declaration) → In d ds → d.scope ≡ scope → d.name.id ≡ name → look_up ds scope name ≡ Some d
  found_as scope name d there at named = sym (λ i. look_up ds (at i) (named i)) ∙ name_found d there

  -- what is declared at a place is found there
  pub placed : (d : Declaration) → In d ds → declared_at ds d.name.place ≡ Some d
  unfolding declared_at
  placed d there =
      let f = some_found (λ e. same_place e.name.place d.name.place) ds d there (same_itself d) in
      let found = in_find (λ e. same_place e.name.place d.name.place) ds f.0 f.1 in
      f.1 ∙ ap (λ (x : Declaration). Some x) (one_place d f.0 there found.0 found.1)

  -- ---- members

  -- what is declared in the scope of a type that is no index or local stands in its text
  level_is : (o : Option Place) (p : Place) → level_of o ≡ Part p → o ≡ Some p
  level_is None p e = let never : ⊥ = cc in absurd never
  level_is (Some q) p e = let same : same_scope (Part q) (Part p) ≡ true = ap (λ (x : Scope). same_scope x (Part p)) e ∙ same_place_itself p in ap (λ (x : Place). Some x) (same_places q p same)

  not_files : (p : Place) → Files ≡ Part p → ⊥
  not_files p e = cc

  pub stands_inside : (type d : Declaration) → In type ds → In d ds → is_inner_sort type.sort ≡ false → d.scope ≡ Part type.name.place → d.inside ≡ Some type.name.place
  stands_inside type d there too outer e = by (levelled units d too)
    where
      by : IsLevelled d → d.inside ≡ Some type.name.place
      by (Inner is) = absurd (own.scopes d type (to_contains ds d too) (to_contains ds type there) is outer e)
      by (OfFiles is files none) = absurd (not_files type.name.place (sym files ∙ e))
      by (AtLevel is level) = level_is d.inside type.name.place (sym level ∙ e)

  pub owner_is : (type d : Declaration) → In type ds → In d ds → is_inner_sort type.sort ≡ false → d.scope ≡ Part type.name.place → owner_of ds d ≡ Some type
  owner_is type d there too outer e =
      ap (λ (o : Option Place). option_and_then (λ type. if same_scope d.scope (Part type.name.place) then Some type else None) (option_and_then (declared_at ds) o)) (stands_inside type d there too outer e)
      ∙ (ap (option_and_then (λ type. if same_scope d.scope (Part type.name.place) then Some type else None)) (placed type there)
      ∙ ap (λ (b : Bool). if b then Some type else None) (ap (λ (x : Scope). same_scope x (Part type.name.place)) e ∙ same_place_itself type.name.place))

  -- ---- a member that is found stays found where more bases are looked at

  more_found : (k : ℕ) (type : Declaration) (name : NameId) (d : Declaration) → member_within k ds type name ≡ Some d → member_within (suc k) ds type name ≡ Some d
  more_found zero type name d e = absurd (none-some d e)
  more_found (suc k) type name d e = by (look_up ds (Part type.name.place) name) refl (base_of ds type) refl e (λ b. more_found k b name d)
    where
      by : (o : Option Declaration) → look_up ds (Part type.name.place) name ≡ o → (p : Option Declaration) → base_of ds type ≡ p → option_or o (option_and_then (λ b. member_within k ds b name) p) ≡ Some d
          → ((b : Declaration) → member_within k ds b name ≡ Some d → member_within (suc k) ds b name ≡ Some d)
          → option_or (look_up ds (Part type.name.place) name) (option_and_then (λ b. member_within (suc k) ds b name) (base_of ds type)) ≡ Some d
      by (Some x) is p from e on = ap (λ (o : Option Declaration). option_or o (option_and_then (λ b. member_within (suc k) ds b name) (base_of ds type))) is ∙ e
      by None is (Some b) from e on =
          (λ i. option_or (is i) (option_and_then (λ b. member_within (suc k) ds b name) (from i))) ∙ on b e
      by None is None from e on = absurd (none-some d e)

  further_found : (more k n : ℕ) → k + more ≡ n → (type : Declaration) (name : NameId) (d : Declaration) → member_within k ds type name ≡ Some d → member_within n ds type name ≡ Some d
  further_found zero k n same type name d e = subst (λ (m : ℕ). member_within m ds type name ≡ Some d) (omega (arith, same)) e
  further_found (suc more) k n same type name d e = further_found more (suc k) n (omega (arith, same)) type name d (more_found k type name d e)

  unfolding_member : (type : Declaration) (name : NameId) → member_of ds type name ≡ member_within (length ds) ds type name
  unfolding member_of
  unfolding_member type name = refl

  -- what a base has isn't declared again
  not_again : (type b : Declaration) (name : NameId) (d : Declaration) → In type ds → base_of ds type ≡ Some b → is_inner_sort type.sort ≡ false → member_of ds b name ≡ Some d → look_up ds (Part type.name.place) name ≡ None
  not_again type b name d there is outer has = by (look_up ds (Part type.name.place) name) refl
    where
      by : (o : Option Declaration) → look_up ds (Part type.name.place) name ≡ o → o ≡ None
      by None e = refl
      by (Some x) e =
          let l = looked_up ds (Part type.name.place) name x e in
          let owner = owner_is type x there l.0 outer (same_scopes x.scope (Part type.name.place) l.1) in
          let same : x.name.id ≡ name = same_names x.name.id name l.2 in
          let found : option_and_then (λ b. member_of ds b x.name.id) (option_and_then (base_of ds) (owner_of ds x)) ≡ Some d =
          ap (λ (o : Option Declaration). option_and_then (λ b. member_of ds b x.name.id) (option_and_then (base_of ds) o)) owner
          ∙ (ap (option_and_then (λ b. member_of ds b x.name.id)) is ∙ (ap (member_of ds b) same ∙ has)) in
          absurd (right x.name.place 7 (OfDeclaration x 7 (to_contains ds x l.0) (Inherits (ap (λ (o : Option Declaration). is_some o) found))))

  has_base : (type b : Declaration) → base_of ds type ≡ Some b → is_inner_sort type.sort ≡ false
  unfolding base_of
  has_base type b e = by type.sort e
    where
      by : (so : Sort) → option_and_then (action_beside type) (option_and_then (type_named ds type.inside) (base_in so)) ≡ Some b → is_inner_sort so ≡ false
      by sort.Component e = refl
      by (sort.Action base) e = refl
      by (sort.Object word) e = refl
      by sort.Enumeration e = refl
      by sort.Function e = refl
      by (sort.Instance of) e = refl
      by (sort.Pool of) e = refl
      by (sort.Item level) e = refl
      by (sort.Field array) e = refl
      by (sort.Reference of output) e = refl
      by (sort.Claim of) e = refl
      by (sort.Handle of) e = refl
      by sort.Constraint e = refl
      by sort.Parameter e = refl
      by sort.Local e = absurd (none-some b e)
      by sort.Index e = absurd (none-some b e)

  found_within : (k more : ℕ) → k + more ≡ length ds → (type from d : Declaration) → In type ds → In from (bases_within k ds type) → In d (own_members ds from) → member_within k ds type d.name.id ≡ Some d
  found_within zero more e type from d there base has = absurd base
  found_within (suc k) more e type from d there base has = by (base_of ds type) refl (in_append (option_map_or (bases_within k ds) (base_of ds type) []) (type ∷ []) from base) (λ b at h. found_within k (suc more) (omega (arith, e)) b from d at h has)
    where
      itself : type ≡ from → look_up ds (Part type.name.place) d.name.id ≡ Some d
      itself same = let o = own_declared ds from d has in found_as (Part type.name.place) d.name.id d o.0 (same_scopes d.scope (Part from.name.place) o.1 ∙ ap (λ (x : Declaration). Part x.name.place) (sym same)) refl

      here : type ≡ from → option_or (look_up ds (Part type.name.place) d.name.id) (option_and_then (λ b. member_within k ds b d.name.id) (base_of ds type)) ≡ Some d
      here same = ap (λ (o : Option Declaration). option_or o (option_and_then (λ b. member_within k ds b d.name.id) (base_of ds type))) (itself same)

      above : (b : Declaration) → base_of ds type ≡ Some b → member_within k ds b d.name.id ≡ Some d → option_or (look_up ds (Part type.name.place) d.name.id) (option_and_then (λ b. member_within k ds b d.name.id) (base_of ds type)) ≡ Some d
      above b is found =
          let all : member_of ds b d.name.id ≡ Some d = unfolding_member b d.name.id ∙ further_found (suc more) k (length ds) (omega (arith, e)) b d.name.id d found in
          let action : is_inner_sort type.sort ≡ false = has_base type b is in
          (λ i. option_or (not_again type b d.name.id d there is action all i) (option_and_then (λ b. member_within k ds b d.name.id) (is i))) ∙ found

      by : (o : Option Declaration) → base_of ds type ≡ o → In from (option_map_or (bases_within k ds) o []) ⊎ In from (type ∷ []) → ((b : Declaration) → In b ds → In from (bases_within k ds b) → member_within k ds b d.name.id ≡ Some d)
          → option_or (look_up ds (Part type.name.place) d.name.id) (option_and_then (λ b. member_within k ds b d.name.id) (base_of ds type)) ≡ Some d
      by o is (inr (inl same)) on = here same
      by o is (inr (inr none)) on = absurd none
      by None is (inl h) on = absurd h
      by (Some b) is (inl h) on = let t = base_there ds type b is in above b is (on b (in_get ds t.0 b t.1) h)

  pub member_named : (type d : Declaration) → In type ds → In d (members ds type) → member_of ds type d.name.id ≡ Some d
  unfolding with_bases
  member_named type d there has =
      let r = in_flat_map (own_members ds) (with_bases ds type) d has in
      unfolding_member type d.name.id ∙ found_within (length ds) 0 (omega arith) type r.0 d there r.1 r.2
