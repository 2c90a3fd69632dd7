-- Conditions, guards, counts and matched values of activities name fields of their own action and indices.
use Rattle.std.proofs.Common.{◌≡◌, ◌<◌, inl, inr, refl, sym, ap, subst, ◌∙◌}
use Rattle.std.specs.Prelude.{ℕ, ◌+◌, Bool, true, false, List, Option, Some, None}
use Rattle.std.specs.List.{find}
use Rattle.std.proofs.lemmas.Bool.{false≢true}
use Rattle.pst_base.specs.declared.position.Place.{Place}
use Rattle.pst_base.specs.declared.table.NameId.{NameId}
use Rattle.pst_ast.specs.ExpressionTree.{ExprTree, PathTree, PathDotted, PathItem, PathLongItem}
use Rattle.pst_expr.specs.declared.ranges.Span.{Span}
use Rattle.pst_model.specs.ConstraintTree.{SlotTree, Own, Index, Through}
use Rattle.pst_model.specs.SoundActivity.{IsCondition}
use Rattle.pst_model.specs.SoundSlots.{IsActionSlot, IsConditionSlot}
use Rattle.pst_ast.specs.Breaches.{IsNone}
use Rattle.pst_ast.specs.declared.scope_declaration.Declaration.{Declaration}
use Rattle.pst_ast.specs.declared.scope_declaration.Sort.{Sort}
use Rattle.pst_ast.specs.declared.scope_declaration.Sort.TheVariants as sort
use Rattle.pst_ast.specs.declared.environment.Environment.{Environment}
use Rattle.pst_ast.specs.declared.referent.Owner.{Owner}
use Rattle.pst_ast.specs.declared.referent.Owner.TheVariants.{OfAction}
use Rattle.pst_ast.specs.declared.referent.Referent.{Referent}
use Rattle.pst_ast.specs.declared.referent.Referent.TheVariants.{Declared, Initial, Previous, Number}
use Rattle.pst_ast.specs.declared.referent.PathPart.{PathPart}
use Rattle.pst_ast.specs.declared.referent.PathReferent.{PathReferent}
use Rattle.pst_ast.specs.declared.referent.Checked.{Checked}
use Rattle.pst_ast.specs.declared.referent.Checked.TheVariants.{Is, Breaks}
use Rattle.pst_ast.specs.Lookups.{owned, member_of, stands_for}
use Rattle.pst_ast.specs.NameRules.{NameBreach, Reaches, item_by}
use Rattle.pst_ast.specs.Paths.{is_value, is_head, is_head_sort, read_path}
use Rattle.pst_ast.specs.Sorts.{is_field, same_place}
use Rattle.pst_ast.specs.Uses.{Judges, Reads, Condition, part_of, parts_of, path_uses, expr_uses, whole_uses, uses}
use Rattle.pst_type_rules.specs.TypeRules.{is_condition_sort, is_declared, TypeBreach, OfUse, NotInCondition}
use Rattle.pst_tree.specs.Bases.{with_bases}
use Rattle.pst_terms.specs.Sources.{Sources, declared_in}
use Rattle.pst_terms.specs.Readings.{Setting, Turn, AtLevel, AtNumber, item_reading, turn_reading, declared_reading, name_reading, owner_reading, checked_reading, reading_of, expr_term, expression_of}
use Rattle.pst_elab_rules.specs.Types.{model_action, model_objects}
use Rattle.pst_sound_model.specs.Blocks.{with_field, AreRows}
use Rattle.pst_sound_model.specs.Used.{IsGood}
use Rattle.pst_sound_model.proofs.Members.{In, in_find, to_contains}
use Rattle.pst_sound_model.proofs.Owned.{of_sort}
use Rattle.pst_sound_model.proofs.TermsOf.{Each}
use Rattle.pst_sound_model.proofs.SetTerms.{IsUsed, AreUses, whole_blocks}
use Rattle.pst_sound_model.proofs.FieldRows.{good_field, good_thing}
use Rattle.pst_sound_model.proofs.PathsRead.{IsPathOf, Alone, Behind, Twice, path_of}
use Rattle.pst_sound_model.proofs.Meanings.{IsMeaning, OfInner, OfOwner, OfItem, meaning_of}
use Rattle.pst_sound_model.proofs.Facts.{AreFacts}
use Rattle.pst_sound_model.proofs.TermSound.{term_is_sound}
use Rattle.pst_sound_model.proofs.Plain.{plain_reading}
use Rattle.pst_sound_model.proofs.ObjectReadings.{handle_is_head}
use Rattle.pst_sound_model.proofs.ActionReadings.{IsActionRow, OfField, OfItself, OfHandle}
use Rattle.pst_sound_model.proofs.ActionRows.{own_slot}
use Rattle.pst_sound_model.proofs.ActionsSound.{blocks_lift}
use Rattle.pst_sound_model.proofs.RowsApart.{action_rows, row_derived}
use Rattle.pst_sound_model.proofs.Numbers.{same_declared, member_referent}
use Rattle.pst_sound_model.proofs.Traversing.{IsText}
use Rattle.pst_sound_model.proofs.Rows.{Either, either_rows, fewer_rows, IsTurnRow, turn_rows}

-- ---- turns

-- each index stands for a number, or for the turn of one of so many repetitions
abbrev pub IsTurn : ℕ → Turn → Type 0
IsTurn level (AtNumber n) = Unit {0}
IsTurn level (AtLevel k) = k < level

abbrev pub AreTurns : ℕ → List (Place × Turn) → Type 0
AreTurns level turns = (x : Place × Turn) → In x turns → IsTurn level x.1

pub turn_good : (IsRow : SlotTree → ℕ → ℕ → Type 0) (s : Sources) (level : ℕ) → ((slot : SlotTree) (f n : ℕ) → IsTurnRow level slot f n → IsRow slot f n) → (turns : List (Place × Turn)) → AreTurns level turns → (place : Place)
    → IsGood IsRow (turn_reading (find (λ (t : Place × Turn). same_place t.0 place) turns))
turn_good IsRow s level into turns are place = by (find (λ (t : Place × Turn). same_place t.0 place) turns) refl
  where
    at : (p : Place) (t : Turn) → IsTurn level t → IsGood IsRow (turn_reading (Some (p, t)))
    at p (AtNumber n) h = tt
    at p (AtLevel k) h = good_thing s IsRow (Index k) refl (into (Index k) 0 1 (record { turn = k; less = h; slot_is = refl; first_is = refl; one = refl }))

    by : (o : Option (Place × Turn)) → find (λ (t : Place × Turn). same_place t.0 place) turns ≡ o → IsGood IsRow (turn_reading o)
    by None e = tt
    by (Some x) e = at x.0 x.1 (are x (in_find (λ (t : Place × Turn). same_place t.0 place) turns x e).0)

-- ---- fields of the action itself

no_through : (slot inner : SlotTree) (n : ℕ) → slot ≡ Own 0 → slot ≡ Through n inner → ⊥
no_through slot inner n e f = cc

no_index : (slot : SlotTree) (k : ℕ) → slot ≡ Own 0 → slot ≡ Index k → ⊥
no_index slot k e h = cc

-- ---- what a condition may name

head_no_condition : (so : Sort) → is_head_sort so ≡ true → is_condition_sort so ≡ false
head_no_condition sort.Component e = refl
head_no_condition (sort.Action base) e = refl
head_no_condition (sort.Object word) e = refl
head_no_condition sort.Enumeration e = refl
head_no_condition sort.Function e = refl
head_no_condition (sort.Instance of) e = refl
head_no_condition (sort.Pool of) e = refl
head_no_condition (sort.Item level) e = absurd (false≢true e)
head_no_condition (sort.Field array) e = absurd (false≢true e)
head_no_condition (sort.Reference of output) e = refl
head_no_condition (sort.Claim of) e = refl
head_no_condition (sort.Handle of) e = refl
head_no_condition sort.Constraint e = refl
head_no_condition sort.Parameter e = refl
head_no_condition sort.Local e = refl
head_no_condition sort.Index e = absurd (false≢true e)

head_apart : (h : Referent) → is_head h ≡ true → is_declared is_condition_sort h ≡ false
head_apart (Declared d) e = head_no_condition d.sort e
head_apart (Initial object) e = refl
head_apart (Previous object) e = refl
head_apart (Number object) e = refl

module _ (s : Sources) (facts : AreFacts s) (right : IsNone (NameBreach s.units s.names)) (kept : IsNone (TypeBreach s.units s.names)) (o : Declaration) (level : ℕ) where
  abbrev ds : List Declaration
  ds = declared_in s

  abbrev pub Always : Declaration → Type 0
  Always h = Unit {0}

  -- a field of an action
  pub record IsFieldRow (x : Declaration) (slot : SlotTree) (first count : ℕ) : Type 0 where
    pub row : IsActionRow s Always x slot first count
    pub is_own : slot ≡ Own 0

  abbrev pub IsConditionRow : Declaration → SlotTree → ℕ → ℕ → Type 0
  IsConditionRow x = Either (IsFieldRow x) (IsTurnRow level)

  -- where a condition stands
  pub record IsPlain (setting : Setting) : Type 0 where
    pub turns : AreTurns level setting.turns
    pub text : IsText ds o setting.at

  may_name : (at : Environment) (p : PathPart) (ps : List PathPart) → IsUsed s.units Condition at (Reads at p ps) → (r : Referent) → stands_for ds s.names at p.name.id ≡ Some r → is_declared is_condition_sort r ≡ true
  may_name at p ps u r e = by (is_declared is_condition_sort r) refl
    where
      by : (b : Bool) → is_declared is_condition_sort r ≡ b → b ≡ true
      by true h = refl
      by false h =
          absurd (kept p.name.place 19 (OfUse (Judges at Condition u.expr) p.name.place 19 (to_contains (uses s.units) (Judges at Condition u.expr) u.judged)
          (NotInCondition at at u.expr p ps r (to_contains (expr_uses at u.expr) (Reads at p ps) u.within) e h)))

  no_head : (at : Environment) (p : PathPart) (ps : List PathPart) → IsUsed s.units Condition at (Reads at p ps) → (h : Referent) → stands_for ds s.names at p.name.id ≡ Some h → is_head h ≡ true → ⊥
  no_head at p ps u h e head = false≢true (sym (head_apart h head) ∙ may_name at p ps u h e)

  field_good : (setting : Setting) (d : Declaration) (name : NameId) (array : Bool) → d.sort ≡ sort.Field array → member_of ds o name ≡ Some d → IsGood (IsConditionRow o) (declared_reading s setting o d (sort.Field array))
  field_good setting d name array is e = good_field s (IsConditionRow o) (Own 0) o d (inl (record { row = OfItself (OfField d (of_sort ds o name d is_field e (ap is_field is)) refl refl refl); is_own = refl }))

  owned_member : (at : Environment) (name : NameId) (d : Declaration) → at.owner ≡ OfAction o → owned ds s.names at.owner name ≡ Some (Declared d) → member_of ds o name ≡ Some d
  owned_member at name d owner e = member_referent (member_of ds o name) d (sym (ap (λ (w : Owner). owned ds s.names w name) owner) ∙ e)

  name_good : (setting : Setting) → IsPlain setting → (p : PathPart) (ps : List PathPart) → IsUsed s.units Condition setting.at (Reads setting.at p ps) → (r : Referent) → stands_for ds s.names setting.at p.name.id ≡ Some r → IsGood (IsConditionRow o) (name_reading s setting o r)
  name_good setting plain p ps u r e = by r (may_name setting.at p ps u r e) (meaning_of ds s.names setting.at p.name.id r plain.text.plain e)
    where
      turn_is : (d : Declaration) → IsGood (IsConditionRow o) (declared_reading s setting o d sort.Index)
      turn_is d = turn_good (IsConditionRow o) s level (λ slot f n h. inr h) setting.turns plain.turns d.name.place

      field_sort : (d : Declaration) (array : Bool) (z : Referent) → z ≡ Declared d → d.sort ≡ sort.Field array → IsMeaning ds s.names setting.at p.name.id z → member_of ds o p.name.id ≡ Some d
      field_sort d array _ same is (OfInner n x there had) = let never : ⊥ = wrong x (plain.text.indices n there x had) same in absurd never
        where
          wrong : (x : Declaration) → x.sort ≡ sort.Index → Declared x ≡ Declared d → ⊥
          wrong x f same = let one = same_declared x d same in false≢true (sym (ap is_field f) ∙ (ap (λ (z : Declaration). is_field z.sort) one ∙ ap is_field is))
      field_sort d array _ same is (OfOwner z f) = owned_member setting.at p.name.id d plain.text.owner (f ∙ ap (λ (w : Referent). Some w) same)
      field_sort d array _ same is (OfItem x level' f) = let never : ⊥ = wrong x f same in absurd never
        where
          wrong : (x : Declaration) → x.sort ≡ sort.Item level' → Declared x ≡ Declared d → ⊥
          wrong x f same = let one = same_declared x d same in false≢true (sym (ap is_field f) ∙ (ap (λ (z : Declaration). is_field z.sort) one ∙ ap is_field is))

      by_sort : (d : Declaration) (so : Sort) → d.sort ≡ so → is_condition_sort so ≡ true → IsMeaning ds s.names setting.at p.name.id (Declared d) → IsGood (IsConditionRow o) (declared_reading s setting o d so)
      by_sort d sort.Component is may m = absurd (false≢true may)
      by_sort d (sort.Action base) is may m = absurd (false≢true may)
      by_sort d (sort.Object word) is may m = absurd (false≢true may)
      by_sort d sort.Enumeration is may m = absurd (false≢true may)
      by_sort d sort.Function is may m = absurd (false≢true may)
      by_sort d (sort.Instance of) is may m = absurd (false≢true may)
      by_sort d (sort.Pool of) is may m = absurd (false≢true may)
      by_sort d (sort.Item l) is may m = item d
        where
          item : (d : Declaration) → IsGood (IsConditionRow o) (declared_reading s setting o d (sort.Item l))
          item d = tt
      by_sort d (sort.Field array) is may m = field_good setting d p.name.id array is (field_sort d array (Declared d) refl is m)
      by_sort d (sort.Reference of output) is may m = absurd (false≢true may)
      by_sort d (sort.Claim of) is may m = absurd (false≢true may)
      by_sort d (sort.Handle of) is may m = absurd (false≢true may)
      by_sort d sort.Constraint is may m = absurd (false≢true may)
      by_sort d sort.Parameter is may m = absurd (false≢true may)
      by_sort d sort.Local is may m = absurd (false≢true may)
      by_sort d sort.Index is may m = turn_is d

      by : (r : Referent) → is_declared is_condition_sort r ≡ true → IsMeaning ds s.names setting.at p.name.id r → IsGood (IsConditionRow o) (name_reading s setting o r)
      by (Declared d) may m = by_sort d d.sort refl may m
      by (Initial object) may m = absurd (false≢true may)
      by (Previous object) may m = absurd (false≢true may)
      by (Number object) may m = absurd (false≢true may)

  good_item : (d : Option Declaration) → IsGood (IsConditionRow o) (item_reading s d)
  good_item None = tt
  good_item (Some d) = tt

  path_good : (setting : Setting) → IsPlain setting → (p : PathPart) (ps : List PathPart) → IsUsed s.units Condition setting.at (Reads setting.at p ps) → (before : List Referent) (last : Referent) → IsPathOf ds s.names setting.at p before last
      → IsGood (IsConditionRow o) (owner_reading s setting (OfAction o) (record { before = before; last = last }))
  path_good setting plain p ps u _ _ (Alone r e value) = name_good setting plain p ps u r e
  path_good setting plain p ps u _ _ (Behind h r next e head named last) = absurd (no_head setting.at p ps u h e head)
  path_good setting plain p ps u _ _ (Twice h n r next after e handle named need also last) = absurd (no_head setting.at p ps u h e (handle_is_head h handle))

  good : (setting : Setting) → IsPlain setting → (path : PathTree) → Each (IsUsed s.units Condition setting.at) (path_uses setting.at path) → IsGood (IsConditionRow o) (reading_of s setting path)
  unfolding reading_of
  good setting plain (PathDotted first rest) all = by (read_path ds s.names setting.at is_value (part_of first) (parts_of rest)) refl
    where
      by : (c : Checked PathReferent) → read_path ds s.names setting.at is_value (part_of first) (parts_of rest) ≡ c → IsGood (IsConditionRow o) (checked_reading s setting (part_of first).name c)
      by (Is path) e =
          subst (IsGood (IsConditionRow o)) (sym (plain_reading s setting (part_of first).name path plain.text.plain ∙ ap (λ (w : Owner). owner_reading s setting w path) plain.text.owner))
          (path_good setting plain (part_of first) (parts_of rest) (all (Reads setting.at (part_of first) (parts_of rest)) (inl refl)) path.before path.last (path_of ds s.names setting.at (part_of first) (parts_of rest) path e))
      by (Breaks place rule) e = tt
  good setting plain (PathItem enum colons item) all = good_item (item_by ds setting.at.component None enum item)
  good setting plain (PathLongItem component colons enum more_colons item) all = good_item (item_by ds setting.at.component (Some component) enum item)

  -- ---- in an action that has the activity

  module _ (never : (d : Declaration) → In d ds → Reaches ds d d → ⊥) (domains : List (List Span)) (x : Declaration) (there : In x ds) (has : In o (with_bases ds x)) where
    field_slot : (slot : SlotTree) (f n k : ℕ) → IsFieldRow x slot f n → k < n → IsConditionSlot (model_action s domains x) level (with_field slot (f + k))
    field_slot slot f n k r less = by r.row
      where
        by : IsActionRow s Always x slot f n → IsConditionSlot (model_action s domains x) level (with_field slot (f + k))
        by (OfItself row) =
            subst (λ (z : SlotTree). IsConditionSlot (model_action s domains x) level (with_field z (f + k))) (sym r.is_own)
            (subst (λ (z : SlotTree). IsActionSlot (model_objects s domains) (model_action s domains x) (with_field z (f + k))) r.is_own (own_slot s facts domains x slot f n k row less))
        by (OfHandle h a inner here typed steady row e) = absurd (no_through slot inner _ r.is_own e)

    no_turn : (slot : SlotTree) (f n g m : ℕ) → IsFieldRow x slot f n → IsTurnRow level slot g m → ⊥
    no_turn slot f n g m r t = no_index slot t.turn r.is_own t.slot_is

    field_rows : AreRows (IsConditionSlot (model_action s domains x) level) (IsFieldRow x)
    field_rows = fewer_rows (IsConditionSlot (model_action s domains x) level) (λ slot. Unit {0}) (IsFieldRow x) (IsActionRow s Always x) (action_rows s facts Always x (λ slot. Unit {0}) (λ slot f n k row less. tt)) (λ slot f n r. r.row) field_slot

    condition_rows : AreRows (IsConditionSlot (model_action s domains x) level) (IsConditionRow x)
    condition_rows = either_rows (IsConditionSlot (model_action s domains x) level) (IsFieldRow x) (IsTurnRow level) field_rows (turn_rows (IsConditionSlot (model_action s domains x) level) level (λ turn less. less)) no_turn

    row_more : (slot : SlotTree) (f n : ℕ) → IsConditionRow o slot f n → IsConditionRow x slot f n
    row_more slot f n (inl r) = inl (record { row = row_derived s facts never x o there has Always slot f n r.row; is_own = r.is_own })
    row_more slot f n (inr t) = inr t

    pub condition_sound : (setting : Setting) → IsPlain setting → (expr : ExprTree) → AreUses s.units (whole_uses setting.at Condition expr) → IsCondition (model_action s domains x) level (expression_of s setting expr)
    condition_sound setting plain expr all =
        term_is_sound (IsConditionSlot (model_action s domains x) level) (IsConditionRow x) condition_rows (expr_term s setting expr)
        (blocks_lift (IsConditionRow o) (IsConditionRow x) row_more (expr_term s setting expr) (whole_blocks (IsConditionRow o) s s.units Condition IsPlain good setting plain expr all))
