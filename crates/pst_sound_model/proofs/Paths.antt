-- Paths in the bodies of actions.
use Rattle.std.proofs.Common.{◌≡◌, ◌⊎◌, ◌<◌, inl, inr, refl, sym, ap, subst, ◌∙◌}
use Rattle.std.specs.Prelude.{ℕ, true, List, [], ◌∷◌, length, Option, Some, None}
use Rattle.std.specs.List.{find}
use Rattle.std.specs.Option.{option_or, option_and_then}
use Rattle.std.proofs.lemmas.Option.{none-some, same_Some}
use Rattle.pst_base.specs.declared.position.Place.{Place}
use Rattle.pst_base.specs.declared.table.NameId.{NameId}
use Rattle.pst_ast.specs.declared.leaf.Name.{Name}
use Rattle.pst_model.specs.ConstraintTree.{SlotTree, Index, Local}
use Rattle.pst_ast.specs.declared.scope_declaration.Declaration.{Declaration}
use Rattle.pst_ast.specs.declared.scope_declaration.Sort.{Sort}
use Rattle.pst_ast.specs.declared.scope_declaration.Sort.TheVariants as sort
use Rattle.pst_ast.specs.declared.referent.Owner.TheVariants.{OfAction}
use Rattle.pst_ast.specs.declared.referent.Referent.{Referent}
use Rattle.pst_ast.specs.declared.referent.Referent.TheVariants.{Declared, Initial, Previous, Number}
use Rattle.pst_ast.specs.declared.referent.PathPart.{PathPart}
use Rattle.pst_ast.specs.Inner.{inner_named}
use Rattle.pst_ast.specs.Sorts.{is_action, is_handle, same_name, same_place}
use Rattle.pst_ast.specs.Lookups.{declared_at, referent, owned, item_here, value_named, stands_for}
use Rattle.pst_ast.specs.Paths.{is_head}
use Rattle.pst_tree.specs.Bases.{number_in}
use Rattle.pst_terms.specs.Sources.{Sources, declared_in}
use Rattle.pst_terms.specs.Terms.{Reading, AThing}
use Rattle.pst_terms.specs.Readings.{Setting, Turn, AtLevel, is_inner_sort, turn_reading, declared_reading, name_reading, own_reading}
use Rattle.pst_sound_model.specs.Used.{IsGood}
use Rattle.pst_sound_model.proofs.Members.{In, in_find}
use Rattle.pst_sound_model.proofs.Facts.{AreFacts}
use Rattle.pst_sound_model.proofs.FieldRows.{good_thing}
use Rattle.pst_sound_model.proofs.PathsRead.{IsPathOf, Alone, Behind, Twice}
use Rattle.pst_sound_model.proofs.Meanings.{AreIndices, without_traversal}
use Rattle.pst_sound_model.proofs.ObjectReadings.{AreNumbers, inner_head, handle_is_head}
use Rattle.pst_sound_model.proofs.ActionReadings.{IsActionRow, other_good, action_path}
use Rattle.pst_sound_model.specs.Rows.{IsBodyRow, OfAction as OfItsAction, OfIndex, OfLocal}

-- no handle
abbrev pub Never : Declaration → Type 0
Never h = ⊥

module _ (s : Sources) (base : Declaration) (locals : List Declaration) where
  -- an index, or a local of the body
  abbrev pub IsInner : Declaration → Type 0
  IsInner d = (d.sort ≡ sort.Index) ⊎ ((d.sort ≡ sort.Local) × In d locals)

  -- where an expression of the body stands, with so many repetitions round it
  pub record IsInBody (levels : ℕ) (setting : Setting) : Type 0 where
    pub owner : setting.at.owner ≡ OfAction base
    pub plain : setting.at.traversal ≡ None
    pub inner : (n : Name) → In n setting.at.inner → (d : Declaration) → declared_at (declared_in s) n.place ≡ Some d → IsInner d
    pub turns : (x : Place × Turn) → In x setting.turns → (level : ℕ) × (x.1 ≡ AtLevel level) × (level < levels)
    pub locals_are : setting.locals ≡ locals

  abbrev pub Row : ℕ → SlotTree → ℕ → ℕ → Type 0
  Row levels = IsBodyRow (IsActionRow s Never base) (length locals) levels

module _ (s : Sources) (facts : AreFacts s) (base : Declaration) (there : In base (declared_in s)) (is : is_action base.sort ≡ true) (locals : List Declaration)
    (numbered : (d : Declaration) → In d locals → number_in locals d < length locals) (levels : ℕ) (setting : Setting) (right : IsInBody s base locals levels setting) where
  abbrev ds : List Declaration
  ds = declared_in s

  abbrev Good : Reading SlotTree → Type 0
  Good = IsGood (Row s base locals levels)

  -- ---- indices and locals

  turn_good : (o : Option (Place × Turn)) → ((x : Place × Turn) → o ≡ Some x → (level : ℕ) × (x.1 ≡ AtLevel level) × (level < levels)) → Good (turn_reading o)
  turn_good None all = tt
  turn_good (Some x) all =
      let t = all x refl in
      subst (λ (t : Turn). Good (turn_reading (Some (x.0, t)))) (sym t.1) (good_thing s (Row s base locals levels) (Index t.0) refl (OfIndex t.0 t.2 refl refl refl))

  index_good : (d : Declaration) → Good (declared_reading s setting base d sort.Index)
  index_good d =
      turn_good (find (λ (t : Place × Turn). same_place t.0 d.name.place) setting.turns)
      (λ x e. right.turns x (in_find (λ (t : Place × Turn). same_place t.0 d.name.place) setting.turns x e).0)

  local_good : (d : Declaration) → In d locals → Good (declared_reading s setting base d sort.Local)
  local_good d has =
      subst (λ (list : List Declaration). Good (AThing (Local (number_in list d)))) (sym right.locals_are)
      (good_thing s (Row s base locals levels) (Local (number_in locals d)) refl (OfLocal (number_in locals d) (numbered d has) refl refl refl))

  inner_good : (d : Declaration) → IsInner s base locals d → Good (declared_reading s setting base d d.sort)
  inner_good d (inl e) = subst (λ (so : Sort). Good (declared_reading s setting base d so)) (sym e) (index_good d)
  inner_good d (inr both) = subst (λ (so : Sort). Good (declared_reading s setting base d so)) (sym both.0) (local_good d both.1)

  inner_sort : (d : Declaration) → IsInner s base locals d → is_inner_sort d.sort ≡ true
  inner_sort d (inl e) = ap is_inner_sort e
  inner_sort d (inr both) = ap is_inner_sort both.0

  -- ---- names that are no index and no local stand for what they do outside of the body's scopes

  abbrev outside : Setting
  outside = record setting { at = record setting.at { inner = [] }; turns = [] }

  -- what is declared by an index or local of that name
  abbrev inner_of : NameId → Option Declaration
  inner_of name = option_and_then (λ n. declared_at ds n.place) (inner_named setting.at.inner name)

  stands_outside : (name : NameId) → inner_of name ≡ None → stands_for ds s.names setting.at name ≡ stands_for ds s.names outside.at name
  unfolding value_named
  stands_outside name e =
      without_traversal ds s.names setting.at name right.plain
      ∙ (ap (λ (o : Option Declaration). option_or (referent o) (option_or (owned ds s.names setting.at.owner name) (referent (item_here ds setting.at.component name)))) e
      ∙ sym (without_traversal ds s.names outside.at name right.plain))

  stands_inner : (name : NameId) (d : Declaration) → inner_of name ≡ Some d → stands_for ds s.names setting.at name ≡ Some (Declared d)
  unfolding value_named
  stands_inner name d e =
      without_traversal ds s.names setting.at name right.plain
      ∙ ap (λ (o : Option Declaration). option_or (referent o) (option_or (owned ds s.names setting.at.owner name) (referent (item_here ds setting.at.component name)))) e

  -- an index or local is one of the body's
  inner_is : (name : NameId) (d : Declaration) → inner_of name ≡ Some d → IsInner s base locals d
  inner_is name d e = by (inner_named setting.at.inner name) refl e
    where
      by : (o : Option Name) → inner_named setting.at.inner name ≡ o → option_and_then (λ n. declared_at ds n.place) o ≡ Some d → IsInner s base locals d
      by None had e = absurd (none-some d e)
      by (Some n) had e = right.inner n (in_find (λ n. same_name n.id name) setting.at.inner n had).0 d e

  -- ---- paths that begin with an index or local

  path_inner : (p : PathPart) (before : List Referent) (last : Referent) → IsPathOf ds s.names setting.at p before last → (d : Declaration) → inner_of p.name.id ≡ Some d → Good (own_reading s setting base before last)
  path_inner p _ _ (Alone r e value) d had =
      subst (λ (x : Referent). Good (name_reading s setting base x)) (same_Some (Declared d) r (sym (stands_inner p.name.id d had) ∙ e)) (inner_good d (inner_is p.name.id d had))
  path_inner p _ _ (Behind h r next e head named last) d had =
      absurd (inner_head d.sort (inner_sort d (inner_is p.name.id d had)) (subst (λ (x : Referent). is_head x ≡ true) (sym (same_Some (Declared d) h (sym (stands_inner p.name.id d had) ∙ e))) head))
  path_inner p _ _ (Twice h n r next after e handle named need also last) d had =
      absurd (inner_head d.sort (inner_sort d (inner_is p.name.id d had)) (subst (λ (x : Referent). is_head x ≡ true) (sym (same_Some (Declared d) h (sym (stands_inner p.name.id d had) ∙ e))) (handle_is_head h handle)))

  -- ---- other paths

  path_outside : (p : PathPart) (before : List Referent) (last : Referent) → inner_of p.name.id ≡ None → IsPathOf ds s.names setting.at p before last → IsPathOf ds s.names outside.at p before last
  path_outside p _ _ none (Alone r e value) = Alone r (sym (stands_outside p.name.id none) ∙ e) value
  path_outside p _ _ none (Behind h r next e head named last) = Behind h r next (sym (stands_outside p.name.id none) ∙ e) head named last
  path_outside p _ _ none (Twice h n r next after e handle named need also last) = Twice h n r next after (sym (stands_outside p.name.id none) ∙ e) handle named need also last

  declared_good : (d : Declaration) (so : Sort) → Good (declared_reading s outside base d so) → Good (declared_reading s setting base d so)
  declared_good d sort.Component g = g
  declared_good d (sort.Action of) g = g
  declared_good d (sort.Object word) g = g
  declared_good d sort.Enumeration g = g
  declared_good d sort.Function g = g
  declared_good d (sort.Instance of) g = g
  declared_good d (sort.Pool of) g = g
  declared_good d (sort.Item level) g = g
  declared_good d (sort.Field array) g = g
  declared_good d (sort.Reference of output) g = g
  declared_good d (sort.Claim of) g = g
  declared_good d (sort.Handle of) g = g
  declared_good d sort.Constraint g = g
  declared_good d sort.Parameter g = g
  declared_good d sort.Local g = g
  declared_good d sort.Index g = index_good d

  back : (before : List Referent) (last : Referent) → Good (own_reading s outside base before last) → Good (own_reading s setting base before last)
  back [] (Declared d) g = declared_good d d.sort g
  back [] (Initial object) g = g
  back [] (Previous object) g = g
  back [] (Number object) g = g
  back (h ∷ more) last g = g

  no_numbers : AreNumbers outside.turns
  no_numbers x has = absurd has

  no_indices : AreIndices ds outside.at
  no_indices n has d e = absurd has

  its_owner : outside.at.owner ≡ OfAction base
  its_owner = right.owner

  its_plain : outside.at.traversal ≡ None
  its_plain = right.plain

  -- a path of the body that names no handle
  pub body_path : (p : PathPart) (before : List Referent) (last : Referent) → IsPathOf ds s.names setting.at p before last → ((h : Declaration) → stands_for ds s.names setting.at p.name.id ≡ Some (Declared h) → is_handle h.sort ≡ true → ⊥)
      → Good (own_reading s setting base before last)
  body_path p before last path never = by (inner_of p.name.id) refl
    where
      by : (o : Option Declaration) → inner_of p.name.id ≡ o → Good (own_reading s setting base before last)
      by (Some d) had = path_inner p before last path d had
      by None had =
          back before last
          (other_good s (IsActionRow s Never base) (Row s base locals levels) (λ slot first count row. OfItsAction row) (own_reading s outside base before last)
          (action_path s facts base there is Never outside no_numbers no_indices its_owner its_plain p before last (path_outside p before last had path)
          (λ h e handle. never h (stands_outside p.name.id had ∙ e) handle)))
