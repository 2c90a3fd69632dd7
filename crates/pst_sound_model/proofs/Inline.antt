-- Inline constraints are sound.
use Rattle.std.proofs.Common.{◌≡◌, inl, inr, refl, sym, ap, subst, ◌∙◌}
use Rattle.std.specs.Prelude.{ℕ, ◌+◌, Bool, true, false, not, ◌&&◌, List, [], ◌∷◌, All, Option, Some, None, is_some, if◌then◌else◌}
use Rattle.std.specs.Option.{option_or, option_and_then}
use Rattle.std.proofs.lemmas.Bool.{false≢true}
use Rattle.std.proofs.lemmas.Option.{none-some, same_Some}
use Rattle.std.proofs.lemmas.List.Elements.{All-nil}
use Rattle.pst_base.specs.declared.position.Place.{Place}
use Rattle.pst_base.specs.declared.table.NameId.{NameId}
use Rattle.pst_ast.specs.declared.leaf.Name.{Name}
use Rattle.pst_ast.specs.declared.instance.Instance.{Instance}
use Rattle.pst_ast.specs.ExpressionTree.{PathTree, PathDotted, PathItem, PathLongItem}
use Rattle.pst_ast.specs.ActivityTree.{WithTree, WithNothing, WithSet, ActivityTree}
use Rattle.pst_expr.specs.declared.ranges.Span.{Span}
use Rattle.pst_model.specs.ConstraintTree.{SlotTree, Own, Object, First, ClaimId, ClaimField, Prev, IsFirst, Id, Index, Local, Through, Outer}
use Rattle.pst_model.specs.ModelTree.{ModelTree}
use Rattle.pst_model.specs.SoundConstraint.{IsSoundConstraint}
use Rattle.pst_model.specs.SoundSlots.{IsConstraintSlot, IsInlineSlot}
use Rattle.pst_ast.specs.Breaches.{IsNone}
use Rattle.pst_ast.specs.declared.scope_declaration.Declaration.{Declaration}
use Rattle.pst_ast.specs.declared.scope_declaration.Sort.{Sort}
use Rattle.pst_ast.specs.declared.scope_declaration.Sort.TheVariants as sort
use Rattle.pst_ast.specs.declared.environment.Environment.{Environment}
use Rattle.pst_ast.specs.declared.referent.Owner.{Owner}
use Rattle.pst_ast.specs.declared.referent.Owner.TheVariants.{OfAction}
use Rattle.pst_ast.specs.declared.referent.Traversal.{Traversal}
use Rattle.pst_ast.specs.declared.referent.Traversal.TheVariants.{ByType, ByHandle}
use Rattle.pst_ast.specs.declared.referent.Referent.{Referent}
use Rattle.pst_ast.specs.declared.referent.Referent.TheVariants.{Declared}
use Rattle.pst_ast.specs.declared.referent.PathPart.{PathPart}
use Rattle.pst_ast.specs.declared.referent.PathReferent.{PathReferent}
use Rattle.pst_ast.specs.declared.referent.Checked.{Checked}
use Rattle.pst_ast.specs.declared.referent.Checked.TheVariants.{Is, Breaks}
use Rattle.pst_ast.specs.Declarations.{index, in_with, declarations}
use Rattle.pst_ast.specs.Lookups.{referent, owned, member_of, value_named, traversed, traversed_member, stands_for}
use Rattle.pst_ast.specs.NameRules.{NameBreach, Reaches, item_by}
use Rattle.pst_ast.specs.Paths.{is_value, is_head, is_head_sort, read_path}
use Rattle.pst_ast.specs.Sorts.{is_action, is_handle}
use Rattle.pst_ast.specs.Uses.{Judges, Reads, Constrains, part_of, parts_of, path_uses, with_uses}
use Rattle.pst_type_rules.specs.Handles.{mention, is_member_constraint, ByTraversed, ByOwner}
use Rattle.pst_type_rules.specs.TypeRules.{TypeBreach}
use Rattle.pst_tree.specs.Bases.{with_bases}
use Rattle.pst_tree.specs.Contents.{Activity, content_of}
use Rattle.pst_terms.specs.Sources.{Sources, declared_in}
use Rattle.pst_terms.specs.Readings.{Setting, AtNumber, is_inner_sort, is_inner, item_reading, declared_reading, name_reading, own_reading, owner_reading, traversed_with, outer_if, path_reading, checked_reading, reading_of, map_reading}
use Rattle.pst_elab_rules.specs.Constraints.{with_turn, set_terms}
use Rattle.pst_elab_rules.specs.Steps.{inline_of}
use Rattle.pst_elab_rules.specs.Model.{model_by}
use Rattle.pst_elab_rules.specs.Types.{model_action}
use Rattle.pst_sound_model.specs.Blocks.{with_field, AreRows}
use Rattle.pst_sound_model.specs.Used.{IsGood}
use Rattle.pst_sound_model.specs.SoundExpressionsConditions.{HaveOwnPlaces}
use Rattle.pst_sound_model.proofs.Members.{In}
use Rattle.pst_sound_model.proofs.Owned.{of_sort, member_is}
use Rattle.pst_sound_model.proofs.TermsOf.{Each}
use Rattle.pst_sound_model.proofs.SetTerms.{IsUsed, AreUses, AreDeclared, set_blocks}
use Rattle.pst_sound_model.proofs.PathsRead.{IsPathOf, Alone, Behind, Twice, path_of}
use Rattle.pst_sound_model.proofs.Meanings.{AreIndices, IsMeaning, OfInner, OfOwner, OfItem, value_meaning}
use Rattle.pst_sound_model.proofs.Facts.{AreFacts}
use Rattle.pst_sound_model.proofs.Plain.{all_sound, index_more}
use Rattle.pst_sound_model.proofs.ObjectReadings.{handle_is_head}
use Rattle.pst_sound_model.proofs.ActionReadings.{IsOwnRow, OfField, OfReference, OfFirst, OfClaim, OfClaimField, IsActionRow, OfItself, OfHandle, not_inner}
use Rattle.pst_sound_model.proofs.ActionsSound.{all_lift}
use Rattle.pst_sound_model.proofs.RowsApart.{action_rows, row_derived}
use Rattle.pst_sound_model.proofs.Named.{same_names}
use Rattle.pst_sound_model.proofs.Judged.{SteadyIn, steady_derived, judged_steady, path_mention}
use Rattle.pst_sound_model.proofs.Constraints.{constraint_slot}
use Rattle.pst_sound_model.proofs.Rows.{Either, either_rows, IsTurnRow, turn_rows, IsOuterRow, outer_rows, outer_good, lifted_good}
use Rattle.pst_sound_model.proofs.SoundStepsPaths.{member_path}
use Rattle.pst_sound_model.proofs.Conditions.{IsTurn, AreTurns, turn_good}

index_no_head : (d : Declaration) → d.sort ≡ sort.Index → is_head_sort d.sort ≡ true → ⊥
index_no_head d e head = false≢true (sym (ap is_head_sort e) ∙ head)

item_no_head : (d : Declaration) (level : _) → d.sort ≡ sort.Item level → is_head_sort d.sort ≡ true → ⊥
item_no_head d level e head = false≢true (sym (ap is_head_sort e) ∙ head)

-- ---- slots that are neither indices nor of the action round a traversal

outer_no_index : (slot inner : SlotTree) (k : ℕ) → slot ≡ Outer inner → slot ≡ Index k → ⊥
outer_no_index slot inner k e h = cc

abbrev IsAlien : SlotTree → Type 0
IsAlien slot = ((inner : SlotTree) → slot ≡ Outer inner → ⊥) × ((k : ℕ) → slot ≡ Index k → ⊥)

alien_by : (slot other : SlotTree) → slot ≡ other → IsAlien other → IsAlien slot
alien_by slot other e h = ((λ inner f. h.0 inner (sym e ∙ f)), (λ k f. h.1 k (sym e ∙ f)))

own_alien : (field : ℕ) → IsAlien (Own field)
own_alien field = ((λ inner f. cc), (λ k f. cc))

object_alien : (reference field : ℕ) → IsAlien (Object reference field)
object_alien reference field = ((λ inner f. cc), (λ k f. cc))

first_alien : (reference : ℕ) → IsAlien (First reference)
first_alien reference = ((λ inner f. cc), (λ k f. cc))

claim_alien : (claim : ℕ) → IsAlien (ClaimId claim)
claim_alien claim = ((λ inner f. cc), (λ k f. cc))

claim_field_alien : (claim field : ℕ) → IsAlien (ClaimField claim field)
claim_field_alien claim field = ((λ inner f. cc), (λ k f. cc))

through_alien : (handle : ℕ) (slot : SlotTree) → IsAlien (Through handle slot)
through_alien handle slot = ((λ inner f. cc), (λ k f. cc))

-- ---- traversals

-- what is traversed doesn't depend on the indices, and not on whether an inline constraint is meant
pub same_traversed : (ds : List Declaration) (names : List (List ℕ)) (at : Environment) (inner : List Name) (inline : Option Traversal) (t : Traversal) → traversed ds names (record at { inner = inner; traversal = inline }) t ≡ traversed ds names at t
unfolding traversed
same_traversed ds names at inner inline (ByType name) = refl
same_traversed ds names at inner inline (ByHandle hidden_by name) = refl

outer_when : (b c : Bool) → b ≡ true → c ≡ false → (b && not c) ≡ true
outer_when true false e f = refl
outer_when true true e f = absurd (false≢true (sym f))
outer_when false c e f = absurd (false≢true e)

no_inner : (c : Bool) → c ≡ false → c ≡ true → ⊥
no_inner c e f = false≢true (sym e ∙ f)

decide_sort : (so : Sort) → (is_inner_sort so ≡ true → ⊥) → is_inner_sort so ≡ false
decide_sort so h = by (is_inner_sort so) refl
  where
    by : (b : Bool) → is_inner_sort so ≡ b → b ≡ false
    by true e = absurd (h e)
    by false e = refl

module _ (s : Sources) (facts : AreFacts s) (own : HaveOwnPlaces (declarations s.units)) (right : IsNone (NameBreach s.units s.names)) (kept : IsNone (TypeBreach s.units s.names)) (never : (d : Declaration) → In d (declared_in s) → Reaches (declared_in s) d d → ⊥)
    -- the action that has the activity, and the one in whose text it stands
    (x o : Declaration) (there : In x (declared_in s)) (is : is_action x.sort ≡ true) (has : In o (with_bases (declared_in s) x)) (o_there : In o (declared_in s)) (o_is : is_action o.sort ≡ true)
    (activity : ActivityTree) (x_content : content_of s.units x ≡ Some (Activity o activity)) (o_content : content_of s.units o ≡ Some (Activity o activity))
    -- the traversal
    (t : Traversal) (a : Declaration) (a_there : In a (declared_in s)) (a_is : is_action a.sort ≡ true) (level : ℕ) where
  abbrev ds : List Declaration
  ds = declared_in s

  abbrev Steady : Declaration → Declaration → Type 0
  Steady y h = SteadyIn s facts own right kept never y h

  -- in an inline constraint of the traversal
  record IsInline (setting : Setting) : Type 0 where
    turns : AreTurns level setting.turns
    owner : setting.at.owner ≡ OfAction o
    indices : AreIndices ds setting.at
    inline : setting.at.traversal ≡ Some t
    traverses : traversed ds s.names setting.at t ≡ Some a

  abbrev IsInlineRow : Declaration → SlotTree → ℕ → ℕ → Type 0
  IsInlineRow y = Either (IsActionRow s (Steady a) a) (Either (IsOuterRow (IsActionRow s (Steady x) y)) (IsTurnRow level))

  -- ---- handles

  named_so : (owner : Declaration) (name : NameId) (h : Declaration) → member_of ds owner name ≡ Some h → h.name.id ≡ name
  named_so owner name h e = same_names h.name.id name (member_is ds owner name h e).named

  of_traversed : (setting : Setting) → IsInline setting → (p : PathPart) (ps : List PathPart) → IsUsed s.units Constrains setting.at (Reads setting.at p ps) → (h : Declaration) → member_of ds a p.name.id ≡ Some h
      → stands_for ds s.names setting.at p.name.id ≡ Some (Declared h) → is_handle h.sort ≡ true → Steady a h
  of_traversed setting i p ps u h e stands handle =
      judged_steady s facts own right kept never (Judges setting.at Constrains u.expr) (mention setting.at (is_member_constraint setting.at) p.name) h a u.judged (path_mention s facts own right kept never setting.at p ps u) stands handle a_there a_is
      (ByTraversed t a h i.inline i.traverses e) (of_sort ds a p.name.id h is_handle e handle) (named_so a p.name.id h e)

  of_owner : (setting : Setting) → IsInline setting → (p : PathPart) (ps : List PathPart) → IsUsed s.units Constrains setting.at (Reads setting.at p ps) → traversed_member ds s.names setting.at p.name.id ≡ None → (h : Declaration) → member_of ds o p.name.id ≡ Some h
      → stands_for ds s.names setting.at p.name.id ≡ Some (Declared h) → is_handle h.sort ≡ true → Steady x h
  of_owner setting i p ps u none h e stands handle =
      steady_derived s facts own right kept never x o h there has activity x_content o_content (of_sort ds o p.name.id h is_handle e handle)
      (judged_steady s facts own right kept never (Judges setting.at Constrains u.expr) (mention setting.at (is_member_constraint setting.at) p.name) h o u.judged (path_mention s facts own right kept never setting.at p ps u) stands handle o_there o_is
      (ByOwner o i.owner none) (of_sort ds o p.name.id h is_handle e handle) (named_so o p.name.id h e))

  -- ---- paths

  member_is_traversed : (setting : Setting) → IsInline setting → (name : NameId) → traversed_member ds s.names setting.at name ≡ member_of ds a name
  member_is_traversed setting i name =
      ap (option_and_then (λ t. option_and_then (λ a. member_of ds a name) (traversed ds s.names setting.at t))) i.inline ∙ ap (option_and_then (λ a. member_of ds a name)) i.traverses

  with_member : (setting : Setting) → IsInline setting → (name : Name) (m : Declaration) → member_of ds a name.id ≡ Some m → traversed_with s setting.at name ≡ Some a
  with_member setting i name m e =
      ap (λ (b : Bool). if b then option_and_then (traversed ds s.names setting.at) setting.at.traversal else None) (ap (λ (o : Option Declaration). is_some o) (member_is_traversed setting i name.id ∙ e))
      ∙ (ap (option_and_then (traversed ds s.names setting.at)) i.inline ∙ i.traverses)

  without_member : (setting : Setting) → IsInline setting → (name : Name) → member_of ds a name.id ≡ None → traversed_with s setting.at name ≡ None
  without_member setting i name e =
      ap (λ (b : Bool). if b then option_and_then (traversed ds s.names setting.at) setting.at.traversal else None) (ap (λ (o : Option Declaration). is_some o) (member_is_traversed setting i name.id ∙ e))

  stands_member : (setting : Setting) → IsInline setting → (name : NameId) (m : Declaration) → member_of ds a name ≡ Some m → stands_for ds s.names setting.at name ≡ Some (Declared m)
  unfolding stands_for
  stands_member setting i name m e = ap (λ (o : Option Declaration). option_or (referent o) (value_named ds s.names setting.at name)) (member_is_traversed setting i name ∙ e)

  stands_else : (setting : Setting) → IsInline setting → (name : NameId) → member_of ds a name ≡ None → stands_for ds s.names setting.at name ≡ value_named ds s.names setting.at name
  unfolding stands_for
  stands_else setting i name e = ap (λ (o : Option Declaration). option_or (referent o) (value_named ds s.names setting.at name)) (member_is_traversed setting i name ∙ e)

  -- a path that begins with a member of the traversed action
  traversed_good : (setting : Setting) → IsInline setting → (p : PathPart) (ps : List PathPart) → IsUsed s.units Constrains setting.at (Reads setting.at p ps) → (before : List Referent) (last : Referent) → IsPathOf ds s.names setting.at p before last
      → (m : Declaration) → member_of ds a p.name.id ≡ Some m → IsGood (IsInlineRow o) (path_reading s setting p.name (traversed_with s setting.at p.name) (record { before = before; last = last }))
  traversed_good setting i p ps u before last path m e =
      subst (λ (w : Option Declaration). IsGood (IsInlineRow o) (path_reading s setting p.name w (record { before = before; last = last }))) (sym (with_member setting i p.name m e))
      (lifted_good (IsActionRow s (Steady a) a) (IsInlineRow o) (λ slot f n row. inl row) (own_reading s setting a before last)
      (member_path s facts a a_there a_is (Steady a) setting.at p m e (of_traversed setting i p ps u m e (stands_member setting i p.name.id m e)) (stands_member setting i p.name.id m e) setting before last path))

  -- ---- of the action round it

  abbrev Around : Setting → NameId → List Referent → Referent → Type 0
  Around setting name before last = IsGood (IsInlineRow o) (outer_if (is_some setting.at.traversal && not (is_inner (stands_for ds s.names setting.at name))) (own_reading s setting o before last))

  outside : (setting : Setting) → IsInline setting → (name : NameId) (r : Referent) → stands_for ds s.names setting.at name ≡ Some r → is_inner (Some r) ≡ false → (before : List Referent) (last : Referent)
      → IsGood (IsOuterRow (IsActionRow s (Steady x) o)) (map_reading Outer (own_reading s setting o before last)) → Around setting name before last
  outside setting i name r e inner before last g =
      subst (λ (b : Bool). IsGood (IsInlineRow o) (outer_if b (own_reading s setting o before last)))
      (sym (outer_when (is_some setting.at.traversal) (is_inner (stands_for ds s.names setting.at name)) (ap (λ (z : Option Traversal). is_some z) i.inline) (ap is_inner e ∙ inner)))
      (lifted_good (IsOuterRow (IsActionRow s (Steady x) o)) (IsInlineRow o) (λ slot f n row. inr (inl row)) (map_reading Outer (own_reading s setting o before last)) g)

  -- an index
  by_index : (setting : Setting) → IsInline setting → (name : NameId) (d : Declaration) → stands_for ds s.names setting.at name ≡ Some (Declared d) → d.sort ≡ sort.Index → Around setting name [] (Declared d)
  by_index setting i name d e index =
      subst (λ (b : Bool). IsGood (IsInlineRow o) (outer_if (is_some setting.at.traversal && not b) (name_reading s setting o (Declared d)))) (sym (ap is_inner e ∙ ap is_inner_sort index))
      (by (is_some setting.at.traversal))
    where
      reading : IsGood (IsInlineRow o) (declared_reading s setting o d d.sort)
      reading = subst (λ (so : Sort). IsGood (IsInlineRow o) (declared_reading s setting o d so)) (sym index) (turn_good (IsInlineRow o) s level (λ slot f n row. inr (inr row)) setting.turns i.turns d.name.place)

      by : (b : Bool) → IsGood (IsInlineRow o) (outer_if (b && not true) (name_reading s setting o (Declared d)))
      by true = reading
      by false = reading

  -- an enum item
  by_item : (setting : Setting) → IsInline setting → (name : NameId) (d : Declaration) (l : _) → stands_for ds s.names setting.at name ≡ Some (Declared d) → d.sort ≡ sort.Item l → Around setting name [] (Declared d)
  by_item setting i name d l e item =
      outside setting i name (Declared d) e (ap is_inner_sort item) [] (Declared d)
      (subst (λ (so : Sort). IsGood (IsOuterRow (IsActionRow s (Steady x) o)) (map_reading Outer (declared_reading s setting o d so))) (sym item) (number d))
    where
      number : (d : Declaration) → IsGood (IsOuterRow (IsActionRow s (Steady x) o)) (map_reading Outer (declared_reading s setting o d (sort.Item l)))
      number d = tt

  its_member : (at : Environment) (name : NameId) (r : Referent) → at.owner ≡ OfAction o → owned ds s.names at.owner name ≡ Some r → (d : Declaration) × (member_of ds o name ≡ Some d) × (r ≡ Declared d)
  its_member at name r owner e = by (member_of ds o name) refl (sym (ap (λ (w : Owner). owned ds s.names w name) owner) ∙ e)
    where
      by : (m : Option Declaration) → member_of ds o name ≡ m → referent m ≡ Some r → (d : Declaration) × (member_of ds o name ≡ Some d) × (r ≡ Declared d)
      by None had f = absurd (none-some r f)
      by (Some d) had f = (d, had, sym (same_Some (Declared d) r f))

  -- a member of the action
  by_member : (setting : Setting) → IsInline setting → (p : PathPart) (ps : List PathPart) → IsUsed s.units Constrains setting.at (Reads setting.at p ps) → member_of ds a p.name.id ≡ None → (m : Declaration) → member_of ds o p.name.id ≡ Some m
      → stands_for ds s.names setting.at p.name.id ≡ Some (Declared m) → (before : List Referent) (last : Referent) → IsPathOf ds s.names setting.at p before last → Around setting p.name.id before last
  by_member setting i p ps u none m e stands before last path =
      outside setting i p.name.id (Declared m) stands (decide_sort m.sort (not_inner s facts o o_there o_is p.name.id m e)) before last
      (outer_good (IsActionRow s (Steady x) o) (own_reading s setting o before last)
      (member_path s facts o o_there o_is (Steady x) setting.at p m e (of_owner setting i p ps u (member_is_traversed setting i p.name.id ∙ none) m e stands) stands setting before last path))

  around : (setting : Setting) → IsInline setting → (p : PathPart) (ps : List PathPart) → IsUsed s.units Constrains setting.at (Reads setting.at p ps) → member_of ds a p.name.id ≡ None → (before : List Referent) (last : Referent) → IsPathOf ds s.names setting.at p before last
      → Around setting p.name.id before last
  around setting i p ps u none _ _ (Alone r e value) = by r (value_meaning ds s.names setting.at p.name.id r (sym (stands_else setting i p.name.id none) ∙ e)) e value
    where
      by : (r : Referent) → IsMeaning ds s.names setting.at p.name.id r → stands_for ds s.names setting.at p.name.id ≡ Some r → is_value r p.index ≡ true → Around setting p.name.id [] r
      by _ (OfInner n d here had) e value = by_index setting i p.name.id d e (i.indices n here d had)
      by _ (OfItem d l item) e value = by_item setting i p.name.id d l e item
      by _ (OfOwner r f) e value =
          let m = its_member setting.at p.name.id r i.owner f in
          by_member setting i p ps u none m.0 m.1 (e ∙ ap (λ (z : Referent). Some z) m.2) [] r (Alone r e value)
  around setting i p ps u none _ _ (Behind h r next e head named last) = by h (value_meaning ds s.names setting.at p.name.id h (sym (stands_else setting i p.name.id none) ∙ e)) e head (Behind h r next e head named last)
    where
      by : (h : Referent) → IsMeaning ds s.names setting.at p.name.id h → stands_for ds s.names setting.at p.name.id ≡ Some h → is_head h ≡ true → IsPathOf ds s.names setting.at p (h ∷ []) r → Around setting p.name.id (h ∷ []) r
      by _ (OfInner n d here had) e head path = absurd (index_no_head d (i.indices n here d had) head)
      by _ (OfItem d l item) e head path = absurd (item_no_head d l item head)
      by _ (OfOwner h f) e head path = let m = its_member setting.at p.name.id h i.owner f in by_member setting i p ps u none m.0 m.1 (e ∙ ap (λ (z : Referent). Some z) m.2) (h ∷ []) r path
  around setting i p ps u none _ _ (Twice h n r next after e handle named need also last) =
      by h (value_meaning ds s.names setting.at p.name.id h (sym (stands_else setting i p.name.id none) ∙ e)) e (handle_is_head h handle) (Twice h n r next after e handle named need also last)
    where
      by : (h : Referent) → IsMeaning ds s.names setting.at p.name.id h → stands_for ds s.names setting.at p.name.id ≡ Some h → is_head h ≡ true → IsPathOf ds s.names setting.at p (h ∷ n ∷ []) r → Around setting p.name.id (h ∷ n ∷ []) r
      by _ (OfInner k d here had) e head path = absurd (index_no_head d (i.indices k here d had) head)
      by _ (OfItem d l item) e head path = absurd (item_no_head d l item head)
      by _ (OfOwner h f) e head path = let m = its_member setting.at p.name.id h i.owner f in by_member setting i p ps u none m.0 m.1 (e ∙ ap (λ (z : Referent). Some z) m.2) (h ∷ n ∷ []) r path

  around_good : (setting : Setting) → IsInline setting → (p : PathPart) (ps : List PathPart) → IsUsed s.units Constrains setting.at (Reads setting.at p ps) → member_of ds a p.name.id ≡ None → (before : List Referent) (last : Referent) → IsPathOf ds s.names setting.at p before last
      → IsGood (IsInlineRow o) (path_reading s setting p.name (traversed_with s setting.at p.name) (record { before = before; last = last }))
  around_good setting i p ps u none before last path =
      subst (λ (w : Option Declaration). IsGood (IsInlineRow o) (path_reading s setting p.name w (record { before = before; last = last }))) (sym (without_member setting i p.name none))
      (subst (λ (w : Owner). IsGood (IsInlineRow o) (outer_if (is_some setting.at.traversal && not (is_inner (stands_for ds s.names setting.at p.name.id))) (owner_reading s setting w (record { before = before; last = last })))) (sym i.owner)
      (around setting i p ps u none before last path))

  path_good : (setting : Setting) → IsInline setting → (p : PathPart) (ps : List PathPart) → IsUsed s.units Constrains setting.at (Reads setting.at p ps) → (before : List Referent) (last : Referent) → IsPathOf ds s.names setting.at p before last
      → IsGood (IsInlineRow o) (path_reading s setting p.name (traversed_with s setting.at p.name) (record { before = before; last = last }))
  path_good setting i p ps u before last path = by (member_of ds a p.name.id) refl
    where
      by : (m : Option Declaration) → member_of ds a p.name.id ≡ m → IsGood (IsInlineRow o) (path_reading s setting p.name (traversed_with s setting.at p.name) (record { before = before; last = last }))
      by (Some m) e = traversed_good setting i p ps u before last path m e
      by None e = around_good setting i p ps u e before last path

  good_item : (d : Option Declaration) → IsGood (IsInlineRow o) (item_reading s d)
  good_item None = tt
  good_item (Some d) = tt

  good : (setting : Setting) → IsInline setting → (path : PathTree) → Each (IsUsed s.units Constrains setting.at) (path_uses setting.at path) → IsGood (IsInlineRow o) (reading_of s setting path)
  unfolding reading_of
  good setting i (PathDotted first rest) all = by (read_path ds s.names setting.at is_value (part_of first) (parts_of rest)) refl
    where
      by : (c : Checked PathReferent) → read_path ds s.names setting.at is_value (part_of first) (parts_of rest) ≡ c → IsGood (IsInlineRow o) (checked_reading s setting (part_of first).name c)
      by (Is path) e =
          path_good setting i (part_of first) (parts_of rest) (all (Reads setting.at (part_of first) (parts_of rest)) (inl refl)) path.before path.last (path_of ds s.names setting.at (part_of first) (parts_of rest) path e)
      by (Breaks place rule) e = tt
  good setting i (PathItem enum colons item) all = good_item (item_by ds setting.at.component None enum item)
  good setting i (PathLongItem component colons enum more_colons item) all = good_item (item_by ds setting.at.component (Some component) enum item)

  stays : (type : Place) (setting : Setting) (name : Name) (k : ℕ) → In (index type name) ds → IsInline setting → IsInline (with_turn setting name (AtNumber k))
  stays type setting name k itself i = record {
    turns = more;
    owner = i.owner;
    indices = index_more s facts type setting.at name itself i.indices;
    inline = i.inline;
    traverses = same_traversed ds s.names setting.at (name ∷ setting.at.inner) setting.at.traversal t ∙ i.traverses;
  }
    where
      more : AreTurns level ((name.place, AtNumber k) ∷ setting.turns)
      more y (inl e) = subst (λ (z : Place × _). IsTurn level z.1) e tt
      more y (inr h) = i.turns y h

  -- ---- slots

  module _ (domains : List (List Span)) (instances : List Instance) where
    abbrev model_of : ModelTree
    model_of = model_by s domains instances

    abbrev IsSlot : SlotTree → Type 0
    IsSlot = IsInlineSlot model_of (model_action s domains x) (model_action s domains a) level

    to_inline : (slot : SlotTree) → IsConstraintSlot model_of (model_action s domains a) slot → IsSlot slot
    to_inline (Own field) h = h
    to_inline (Object r field) h = h
    to_inline (First r) h = h
    to_inline (ClaimId c) h = h
    to_inline (ClaimField c field) h = h
    to_inline (Prev field) h = h
    to_inline IsFirst h = h
    to_inline Id h = h
    to_inline (Index k) h = absurd h
    to_inline (Local local) h = h
    to_inline (Through handle slot) h = h
    to_inline (Outer slot) h = absurd h

    traversed_rows : AreRows IsSlot (IsActionRow s (Steady a) a)
    traversed_rows = action_rows s facts (Steady a) a IsSlot (λ slot f n k row less. to_inline (with_field slot (f + k)) (constraint_slot s facts own right kept never domains instances a a_there a_is slot f n k row less))

    around_rows : AreRows IsSlot (IsOuterRow (IsActionRow s (Steady x) x))
    around_rows =
        outer_rows IsSlot (IsConstraintSlot model_of (model_action s domains x)) (IsActionRow s (Steady x) x)
        (action_rows s facts (Steady x) x (IsConstraintSlot model_of (model_action s domains x)) (constraint_slot s facts own right kept never domains instances x there is)) (λ slot h. h)

    outer_no_turn : (slot : SlotTree) (f n g m : ℕ) → IsOuterRow (IsActionRow s (Steady x) x) slot f n → IsTurnRow level slot g m → ⊥
    outer_no_turn slot f n g m r q = outer_no_index slot r.inner q.turn r.slot_is q.slot_is

    its_alien : (y : Declaration) (slot : SlotTree) (f n : ℕ) → IsOwnRow s y slot f n → IsAlien slot
    its_alien y slot f n (OfField d here e b c) = alien_by slot (Own 0) e (own_alien 0)
    its_alien y slot f n (OfReference r q d here typed inside e b c) = alien_by slot (Object _ 0) e (object_alien _ 0)
    its_alien y slot f n (OfFirst r q here typed st e b c) = alien_by slot (First _) e (first_alien _)
    its_alien y slot f n (OfClaim q here e b c) = alien_by slot (ClaimId _) e (claim_alien _)
    its_alien y slot f n (OfClaimField q r d here typed inside e b c) = alien_by slot (ClaimField _ 0) e (claim_field_alien _ 0)

    row_alien : (slot : SlotTree) (f n : ℕ) → IsActionRow s (Steady a) a slot f n → IsAlien slot
    row_alien slot f n (OfItself row) = its_alien a slot f n row
    row_alien slot f n (OfHandle h b inner here typed steady row e) = alien_by slot (Through _ inner) e (through_alien _ inner)

    apart : (slot : SlotTree) (f n g m : ℕ) → IsActionRow s (Steady a) a slot f n → Either (IsOuterRow (IsActionRow s (Steady x) x)) (IsTurnRow level) slot g m → ⊥
    apart slot f n g m r (inl q) = (row_alien slot f n r).0 q.inner q.slot_is
    apart slot f n g m r (inr q) = (row_alien slot f n r).1 q.turn q.slot_is

    inline_rows : AreRows IsSlot (IsInlineRow x)
    inline_rows =
        either_rows IsSlot (IsActionRow s (Steady a) a) (Either (IsOuterRow (IsActionRow s (Steady x) x)) (IsTurnRow level)) traversed_rows
        (either_rows IsSlot (IsOuterRow (IsActionRow s (Steady x) x)) (IsTurnRow level) around_rows (turn_rows IsSlot level (λ turn less. less)) outer_no_turn) apart

    row_more : (slot : SlotTree) (f n : ℕ) → IsInlineRow o slot f n → IsInlineRow x slot f n
    row_more slot f n (inl r) = inl r
    row_more slot f n (inr (inl r)) = inr (inl (record { inner = r.inner; slot_is = r.slot_is; row = row_derived s facts never x o there has (Steady x) r.inner f n r.row }))
    row_more slot f n (inr (inr r)) = inr (inr r)

    -- the inline constraints of a traversal that stands there
    pub inline_sound : (type : Place) (setting : Setting) → AreTurns level setting.turns → setting.at.owner ≡ OfAction o → AreIndices ds setting.at → traversed ds s.names setting.at t ≡ Some a
        → (with_part : WithTree) → AreUses s.units (with_uses setting.at t with_part) → AreDeclared ds (in_with type with_part) → All (IsSoundConstraint IsSlot) (inline_of s setting t with_part)
    inline_sound type setting turns owner indices traverses (WithNothing place) all inside = All-nil (IsSoundConstraint IsSlot)
    inline_sound type setting turns owner indices traverses (WithSet with_place set) all inside =
        let inner : Setting = record setting { at = record setting.at { traversal = Some t } } in
        all_sound IsSlot (IsInlineRow x) inline_rows (set_terms s inner set)
        (all_lift (IsInlineRow o) (IsInlineRow x) row_more (set_terms s inner set)
        (set_blocks (IsInlineRow o) s s.units ds type IsInline (stays type) good inner
        (record { turns = turns; owner = owner; indices = indices; inline = refl; traverses = same_traversed ds s.names setting.at setting.at.inner (Some t) t ∙ traverses }) set all inside))
