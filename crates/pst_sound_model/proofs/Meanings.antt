-- What a name in an expression that is no inline constraint stands for.
use Rattle.std.proofs.Common.{◌≡◌, refl, sym, ap, subst, ◌∙◌}
use Rattle.std.specs.Prelude.{ℕ, Bool, true, false, ◌&&◌, List, codes, Option, Some, None, if◌then◌else◌}
use Rattle.std.specs.Option.{option_or, option_and_then}
use Rattle.std.proofs.lemmas.Bool.{false≢true}
use Rattle.std.proofs.lemmas.Option.{none-some, same_Some}
use Rattle.pst_ast.specs.declared.leaf.Name.{Name}
use Rattle.pst_base.specs.declared.position.Place.{Place}
use Rattle.pst_base.specs.declared.table.NameId.{NameId}
use Rattle.pst_ast.specs.declared.scope_declaration.Declaration.{Declaration}
use Rattle.pst_ast.specs.declared.scope_declaration.Scope.{Scope}
use Rattle.pst_ast.specs.declared.scope_declaration.Scope.TheVariants.{Files, Part}
use Rattle.pst_ast.specs.declared.scope_declaration.Sort.{Sort}
use Rattle.pst_ast.specs.declared.scope_declaration.Sort.TheVariants as sort
use Rattle.pst_ast.specs.declared.environment.Environment.{Environment}
use Rattle.pst_ast.specs.declared.referent.Owner.TheVariants.{OfObject}
use Rattle.pst_ast.specs.declared.referent.Traversal.{Traversal}
use Rattle.pst_ast.specs.declared.referent.Referent.{Referent}
use Rattle.pst_ast.specs.declared.referent.Referent.TheVariants.{Declared, Initial, Previous, Number}
use Rattle.pst_ast.specs.Inner.{inner_named}
use Rattle.pst_ast.specs.Sorts.{same_name, is_state, is_resource, is_field}
use Rattle.pst_ast.specs.Lookups.{declared_at, item_at, is_item_at, item_here, referent, is_text, word_in, field_of, owned, value_behind, value_named, member_of, traversed, stands_for}
use Rattle.pst_tree.specs.Bases.{fields_of}
use Rattle.pst_terms.specs.Readings.{is_inner_sort}
use Rattle.pst_sound_model.proofs.Members.{In, in_find}
use Rattle.pst_sound_model.proofs.Owned.{both_true, field_found}

-- the names of an environment stand for indices and locals
abbrev pub AreInner : List Declaration → Environment → Type 0
AreInner ds at = (n : Name) → In n at.inner → (d : Declaration) → declared_at ds n.place ≡ Some d → is_inner_sort d.sort ≡ true

-- of indices alone
abbrev pub AreIndices : List Declaration → Environment → Type 0
AreIndices ds at = (n : Name) → In n at.inner → (d : Declaration) → declared_at ds n.place ≡ Some d → d.sort ≡ sort.Index

module _ (ds : List Declaration) (names : List (List ℕ)) (at : Environment) (name : NameId) where
  pub without_traversal : at.traversal ≡ None → stands_for ds names at name ≡ value_named ds names at name
  unfolding stands_for
  without_traversal e = ap (λ (t : Option Traversal). option_or (referent (option_and_then (λ t. option_and_then (λ a. member_of ds a name) (traversed ds names at t)) t)) (value_named ds names at name)) e

  -- an index or local, something of the owner, or an enum item
  pub data IsMeaning : Referent → Type 0 where
    OfInner : (n : Name) (d : Declaration) → In n at.inner → declared_at ds n.place ≡ Some d → IsMeaning (Declared d)
    OfOwner : (r : Referent) → owned ds names at.owner name ≡ Some r → IsMeaning r
    OfItem : (d : Declaration) (level : Scope) → d.sort ≡ sort.Item level → IsMeaning (Declared d)

  item_sort : (level : Scope) (s : Sort) → is_item_at level s ≡ true → (at : Scope) × (s ≡ sort.Item at)
  item_sort level sort.Component e = absurd (false≢true e)
  item_sort level (sort.Action base) e = absurd (false≢true e)
  item_sort level (sort.Object word) e = absurd (false≢true e)
  item_sort level sort.Enumeration e = absurd (false≢true e)
  item_sort level sort.Function e = absurd (false≢true e)
  item_sort level (sort.Instance of) e = absurd (false≢true e)
  item_sort level (sort.Pool of) e = absurd (false≢true e)
  item_sort level (sort.Item at) e = (at, refl)
  item_sort level (sort.Field array) e = absurd (false≢true e)
  item_sort level (sort.Reference of output) e = absurd (false≢true e)
  item_sort level (sort.Claim of) e = absurd (false≢true e)
  item_sort level (sort.Handle of) e = absurd (false≢true e)
  item_sort level sort.Constraint e = absurd (false≢true e)
  item_sort level sort.Parameter e = absurd (false≢true e)
  item_sort level sort.Local e = absurd (false≢true e)
  item_sort level sort.Index e = absurd (false≢true e)

  item_found : (level : Scope) (d : Declaration) → item_at ds level name ≡ Some d → (at : Scope) × (d.sort ≡ sort.Item at)
  unfolding item_at
  item_found level d e =
      let found = in_find (λ d. is_item_at level d.sort && same_name d.name.id name) ds d e in
      item_sort level d.sort (both_true (is_item_at level d.sort) (same_name d.name.id name) found.1).0

  item_here_found : (component : Option Place) (d : Declaration) → item_here ds component name ≡ Some d → (at : Scope) × (d.sort ≡ sort.Item at)
  item_here_found None d e = item_found Files d e
  item_here_found (Some c) d e = by (item_at ds (Part c) name) refl e
    where
      by : (o : Option Declaration) → item_at ds (Part c) name ≡ o → option_or o (item_at ds Files name) ≡ Some d → (at : Scope) × (d.sort ≡ sort.Item at)
      by None is e = item_found Files d e
      by (Some x) is e = item_found (Part c) d (is ∙ e)

  behind_owner : (r : Referent) (o : Option Referent) → owned ds names at.owner name ≡ o → (i : Option Declaration) → item_here ds at.component name ≡ i → option_or o (referent i) ≡ Some r → IsMeaning r
  behind_owner r (Some x) is i item e = OfOwner r (is ∙ e)
  behind_owner r None is (Some d) item e =
      let l = item_here_found at.component d item in subst IsMeaning (same_Some (Declared d) r e) (OfItem d l.0 l.1)
  behind_owner r None is None item e = absurd (none-some r e)

  behind_inner : (r : Referent) (inner : Option Name) → inner_named at.inner name ≡ inner → value_behind ds names at inner name ≡ Some r → IsMeaning r
  behind_inner r None is e = behind_owner r (owned ds names at.owner name) refl (item_here ds at.component name) refl e
  behind_inner r (Some n) is e = by (declared_at ds n.place) refl e
    where
      by : (o : Option Declaration) → declared_at ds n.place ≡ o → option_or (referent o) (option_or (owned ds names at.owner name) (referent (item_here ds at.component name))) ≡ Some r → IsMeaning r
      by (Some d) had e = subst IsMeaning (same_Some (Declared d) r e) (OfInner n d (in_find (λ n. same_name n.id name) at.inner n is).0 had)
      by None had e = behind_owner r (owned ds names at.owner name) refl (item_here ds at.component name) refl e

  pub meaning_of : (r : Referent) → at.traversal ≡ None → stands_for ds names at name ≡ Some r → IsMeaning r
  unfolding value_named
  meaning_of r plain e = behind_inner r (inner_named at.inner name) refl (sym (without_traversal plain) ∙ e)

  pub value_meaning : (r : Referent) → value_named ds names at name ≡ Some r → IsMeaning r
  unfolding value_named
  value_meaning r e = behind_inner r (inner_named at.inner name) refl e

  -- ---- of an object

  pub data IsOfObject (object : Declaration) : Referent → Type 0 where
    AField : (d : Declaration) → In d (fields_of ds object) → is_field d.sort ≡ true → IsOfObject object (Declared d)
    AnInitial : is_state object.sort ≡ true → IsOfObject object (Initial object)
    APrevious : is_state object.sort ≡ true → IsOfObject object (Previous object)
    ANumber : is_resource object.sort ≡ true → IsOfObject object (Number object)

  word_found : (object : Declaration) (r : Referent) → word_in names object name ≡ Some r → IsOfObject object r
  word_found object r e = by (is_state object.sort) refl (is_text names (codes "initial") name) (is_text names (codes "prev") name) (is_resource object.sort) refl (is_text names (codes "instance_id") name) e
    where
      by : (state : Bool) → is_state object.sort ≡ state → (initial previous : Bool) → (resource : Bool) → is_resource object.sort ≡ resource → (number : Bool)
          → (if state && initial then Some (Initial object) else (if state && previous then Some (Previous object) else (if resource && number then Some (Number object) else None))) ≡ Some r → IsOfObject object r
      by true is true previous resource of number e = subst (IsOfObject object) (same_Some (Initial object) r e) (AnInitial is)
      by true is false true resource of number e = subst (IsOfObject object) (same_Some (Previous object) r e) (APrevious is)
      by true is false false true of true e = subst (IsOfObject object) (same_Some (Number object) r e) (ANumber of)
      by true is false false true of false e = absurd (none-some r e)
      by true is false false false of number e = absurd (none-some r e)
      by false is initial previous true of true e = subst (IsOfObject object) (same_Some (Number object) r e) (ANumber of)
      by false is initial previous true of false e = absurd (none-some r e)
      by false is initial previous false of number e = absurd (none-some r e)

  pub of_object : (object : Declaration) (r : Referent) → owned ds names (OfObject object) name ≡ Some r → IsOfObject object r
  of_object object r e = by (field_of ds object name) refl e
    where
      by : (o : Option Declaration) → field_of ds object name ≡ o → option_or (referent o) (word_in names object name) ≡ Some r → IsOfObject object r
      by (Some d) is e = let f = field_found ds object name d is in subst (IsOfObject object) (same_Some (Declared d) r e) (AField d f.0 f.1)
      by None is e = word_found object r e
