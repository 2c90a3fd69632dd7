-- Paths in the constraints of objects.
use Rattle.std.proofs.Common.{◌≡◌, ◌⊎◌, ◌<◌, ◌≤◌, inl, refl, sym, ap, subst, arith, ◌∙◌}
use Rattle.std.specs.Prelude.{ℕ, ◌+◌, true, false, List, [], length, Option, Some, None}
use Rattle.std.specs.List.{find}
use Rattle.std.proofs.lemmas.Bool.{false≢true}
use Rattle.std.proofs.lemmas.Option.{none-some, same_Some}
use Rattle.pst_base.specs.declared.position.Place.{Place}
use Rattle.pst_base.specs.declared.table.NameId.{NameId}
use Rattle.pst_ast.specs.declared.declaration.ObjectWord.TheVariants as word
use Rattle.pst_expr.specs.declared.ranges.Span.{Span}
use Rattle.pst_model.specs.Limits.{most_elements}
use Rattle.pst_model.specs.declared.object.ObjectKind.TheVariants.{State, Resource}
use Rattle.pst_model.specs.ConstraintTree.{SlotTree, Own, Prev, IsFirst, Id}
use Rattle.pst_model.specs.SoundSlots.{IsObjectSlot}
use Rattle.pst_ast.specs.declared.scope_declaration.Declaration.{Declaration}
use Rattle.pst_ast.specs.declared.scope_declaration.Scope.{Scope}
use Rattle.pst_ast.specs.declared.scope_declaration.Sort.{Sort}
use Rattle.pst_ast.specs.declared.scope_declaration.Sort.TheVariants as sort
use Rattle.pst_ast.specs.declared.referent.Owner.{Owner}
use Rattle.pst_ast.specs.declared.referent.Owner.TheVariants.{OfObject}
use Rattle.pst_ast.specs.declared.referent.Referent.{Referent}
use Rattle.pst_ast.specs.declared.referent.Referent.TheVariants.{Declared, Initial, Previous, Number}
use Rattle.pst_ast.specs.declared.referent.PathPart.{PathPart}
use Rattle.pst_ast.specs.Sorts.{is_field, is_state, is_resource, is_handle, same_place}
use Rattle.pst_ast.specs.Lookups.{field_of, owned, referent}
use Rattle.pst_ast.specs.Paths.{is_head, is_head_sort, named_behind, is_handle_referent}
use Rattle.pst_tree.specs.Bases.{fields_of}
use Rattle.pst_terms.specs.Sources.{Sources, declared_in}
use Rattle.pst_terms.specs.Fields.{count_of, field_number}
use Rattle.pst_terms.specs.Readings.{Turn, AtNumber, Setting, is_inner_sort, declared_reading, turn_reading, name_reading, behind_reading, own_reading}
use Rattle.pst_elab_rules.specs.Types.{kind_in, model_object, model_fields}
use Rattle.pst_sound_model.specs.Blocks.{without_field, with_field, has_field, AreRows}
use Rattle.pst_sound_model.specs.Used.{IsGood}
use Rattle.pst_sound_model.proofs.Members.{In, in_find}
use Rattle.pst_sound_model.proofs.Owned.{field_found, member_declared}
use Rattle.pst_sound_model.proofs.FieldRows.{fields_apart, within_model, good_field, good_thing}
use Rattle.pst_sound_model.proofs.Facts.{AreFacts, own_place}
use Rattle.pst_sound_model.proofs.PathsRead.{IsPathOf, Alone, Behind, Twice}
use Rattle.pst_sound_model.proofs.Meanings.{AreIndices, IsMeaning, OfInner, OfOwner, OfItem, meaning_of, IsOfObject, AField, AnInitial, APrevious, ANumber as AWord, of_object}

-- each index of a setting stands for a number
abbrev pub AreNumbers : List (Place × Turn) → Type 0
AreNumbers turns = (x : Place × Turn) → In x turns → (n : ℕ) × (x.1 ≡ AtNumber n)

pub number_turn : (IsRow : SlotTree → ℕ → ℕ → Type 0) (turns : List (Place × Turn)) → AreNumbers turns → (place : Place) → IsGood IsRow (turn_reading (find (λ (t : Place × Turn). same_place t.0 place) turns))
number_turn IsRow turns numbers place = by (find (λ (t : Place × Turn). same_place t.0 place) turns) refl
  where
    at : (x : Place × Turn) (n : ℕ) → x.1 ≡ AtNumber n → IsGood IsRow (turn_reading (Some x))
    at x n e = subst (λ (t : Turn). IsGood IsRow (turn_reading (Some (x.0, t)))) (sym e) tt

    by : (o : Option (Place × Turn)) → find (λ (t : Place × Turn). same_place t.0 place) turns ≡ o → IsGood IsRow (turn_reading o)
    by None e = tt
    by (Some x) e = let n = numbers x (in_find (λ (t : Place × Turn). same_place t.0 place) turns x e).0 in at x n.0 n.1

pub inner_head : (s : Sort) → is_inner_sort s ≡ true → is_head_sort s ≡ true → ⊥
inner_head sort.Component i h = false≢true i
inner_head (sort.Action base) i h = false≢true i
inner_head (sort.Object word) i h = false≢true i
inner_head sort.Enumeration i h = false≢true i
inner_head sort.Function i h = false≢true i
inner_head (sort.Instance of) i h = false≢true i
inner_head (sort.Pool of) i h = false≢true i
inner_head (sort.Item level) i h = false≢true i
inner_head (sort.Field array) i h = false≢true i
inner_head (sort.Reference of output) i h = false≢true i
inner_head (sort.Claim of) i h = false≢true i
inner_head (sort.Handle of) i h = false≢true i
inner_head sort.Constraint i h = false≢true i
inner_head sort.Parameter i h = false≢true i
inner_head sort.Local i h = false≢true h
inner_head sort.Index i h = false≢true h

pub field_not_head : (s : Sort) → is_field s ≡ true → is_head_sort s ≡ true → ⊥
field_not_head sort.Component i h = false≢true i
field_not_head (sort.Action base) i h = false≢true i
field_not_head (sort.Object word) i h = false≢true i
field_not_head sort.Enumeration i h = false≢true i
field_not_head sort.Function i h = false≢true i
field_not_head (sort.Instance of) i h = false≢true i
field_not_head (sort.Pool of) i h = false≢true i
field_not_head (sort.Item level) i h = false≢true i
field_not_head (sort.Field array) i h = false≢true h
field_not_head (sort.Reference of output) i h = false≢true i
field_not_head (sort.Claim of) i h = false≢true i
field_not_head (sort.Handle of) i h = false≢true i
field_not_head sort.Constraint i h = false≢true i
field_not_head sort.Parameter i h = false≢true i
field_not_head sort.Local i h = false≢true i
field_not_head sort.Index i h = false≢true i

pub handle_is_head : (h : Referent) → is_handle_referent h ≡ true → is_head h ≡ true
handle_is_head (Declared d) e = by d.sort e
  where
    by : (s : Sort) → is_handle s ≡ true → is_head_sort s ≡ true
    by sort.Component i = absurd (false≢true i)
    by (sort.Action base) i = absurd (false≢true i)
    by (sort.Object word) i = absurd (false≢true i)
    by sort.Enumeration i = absurd (false≢true i)
    by sort.Function i = absurd (false≢true i)
    by (sort.Instance of) i = absurd (false≢true i)
    by (sort.Pool of) i = absurd (false≢true i)
    by (sort.Item level) i = absurd (false≢true i)
    by (sort.Field array) i = absurd (false≢true i)
    by (sort.Reference of output) i = absurd (false≢true i)
    by (sort.Claim of) i = absurd (false≢true i)
    by (sort.Handle of) i = refl
    by sort.Constraint i = absurd (false≢true i)
    by sort.Parameter i = absurd (false≢true i)
    by sort.Local i = absurd (false≢true i)
    by sort.Index i = absurd (false≢true i)
handle_is_head (Initial object) e = absurd (false≢true e)
handle_is_head (Previous object) e = absurd (false≢true e)
handle_is_head (Number object) e = absurd (false≢true e)

module _ (s : Sources) (object : Declaration) where
  pub data IsObjectRow (slot : SlotTree) (first count : ℕ) : Type 0 where
    OfOwn : (d : Declaration) → In d (fields_of (declared_in s) object) → slot ≡ Own 0 → first ≡ field_number s object d → count ≡ count_of s d → IsObjectRow slot first count
    OfPrevious : (d : Declaration) → In d (fields_of (declared_in s) object) → is_state object.sort ≡ true → slot ≡ Prev 0 → first ≡ field_number s object d → count ≡ count_of s d → IsObjectRow slot first count
    OfInitial : is_state object.sort ≡ true → slot ≡ IsFirst → first ≡ 0 → count ≡ 1 → IsObjectRow slot first count
    OfNumber : is_resource object.sort ≡ true → slot ≡ Id → first ≡ 0 → count ≡ 1 → IsObjectRow slot first count

  pub kind_state : (so : Sort) → is_state so ≡ true → kind_in so ≡ State
  kind_state sort.Component e = absurd (false≢true e)
  kind_state (sort.Action base) e = absurd (false≢true e)
  kind_state (sort.Object word.Buffer) e = absurd (false≢true e)
  kind_state (sort.Object word.Stream) e = absurd (false≢true e)
  kind_state (sort.Object word.State) e = refl
  kind_state (sort.Object word.Resource) e = absurd (false≢true e)
  kind_state sort.Enumeration e = absurd (false≢true e)
  kind_state sort.Function e = absurd (false≢true e)
  kind_state (sort.Instance of) e = absurd (false≢true e)
  kind_state (sort.Pool of) e = absurd (false≢true e)
  kind_state (sort.Item level) e = absurd (false≢true e)
  kind_state (sort.Field array) e = absurd (false≢true e)
  kind_state (sort.Reference of output) e = absurd (false≢true e)
  kind_state (sort.Claim of) e = absurd (false≢true e)
  kind_state (sort.Handle of) e = absurd (false≢true e)
  kind_state sort.Constraint e = absurd (false≢true e)
  kind_state sort.Parameter e = absurd (false≢true e)
  kind_state sort.Local e = absurd (false≢true e)
  kind_state sort.Index e = absurd (false≢true e)

  pub kind_resource : (so : Sort) → is_resource so ≡ true → kind_in so ≡ Resource
  kind_resource sort.Component e = absurd (false≢true e)
  kind_resource (sort.Action base) e = absurd (false≢true e)
  kind_resource (sort.Object word.Buffer) e = absurd (false≢true e)
  kind_resource (sort.Object word.Stream) e = absurd (false≢true e)
  kind_resource (sort.Object word.State) e = absurd (false≢true e)
  kind_resource (sort.Object word.Resource) e = refl
  kind_resource sort.Enumeration e = absurd (false≢true e)
  kind_resource sort.Function e = absurd (false≢true e)
  kind_resource (sort.Instance of) e = absurd (false≢true e)
  kind_resource (sort.Pool of) e = absurd (false≢true e)
  kind_resource (sort.Item level) e = absurd (false≢true e)
  kind_resource (sort.Field array) e = absurd (false≢true e)
  kind_resource (sort.Reference of output) e = absurd (false≢true e)
  kind_resource (sort.Claim of) e = absurd (false≢true e)
  kind_resource (sort.Handle of) e = absurd (false≢true e)
  kind_resource sort.Constraint e = absurd (false≢true e)
  kind_resource sort.Parameter e = absurd (false≢true e)
  kind_resource sort.Local e = absurd (false≢true e)
  kind_resource sort.Index e = absurd (false≢true e)

  module _ (facts : AreFacts s) (domains : List (List Span)) where
    apart_fields : (d e : Declaration) → In d (fields_of (declared_in s) object) → In e (fields_of (declared_in s) object) → (f n g m : ℕ) → f ≡ field_number s object d → n ≡ count_of s d → g ≡ field_number s object e → m ≡ count_of s e
        → ((f ≡ g) × (n ≡ m)) ⊎ ((f + n ≤ g) ⊎ (g + m ≤ f))
    apart_fields d e there too f n g m a b c z =
        let far = fields_apart s (fields_of (declared_in s) object) d e there too (own_place s facts is_field object d there) (own_place s facts is_field object e too) in
        let first = subst (λ (x : ℕ). ((x ≡ field_number s object e) × (count_of s d ≡ count_of s e)) ⊎ ((x + count_of s d ≤ field_number s object e) ⊎ (field_number s object e + count_of s e ≤ x))) (sym a) far in
        let second = subst (λ (x : ℕ). ((f ≡ field_number s object e) × (x ≡ count_of s e)) ⊎ ((f + x ≤ field_number s object e) ⊎ (field_number s object e + count_of s e ≤ f))) (sym b) first in
        let third = subst (λ (x : ℕ). ((f ≡ x) × (n ≡ count_of s e)) ⊎ ((f + n ≤ x) ⊎ (x + count_of s e ≤ f))) (sym c) second in
        subst (λ (x : ℕ). ((f ≡ g) × (n ≡ x)) ⊎ ((f + n ≤ g) ⊎ (g + x ≤ f))) (sym z) third

    alone_rows : (f n g m : ℕ) → f ≡ 0 → n ≡ 1 → g ≡ 0 → m ≡ 1 → ((f ≡ g) × (n ≡ m)) ⊎ ((f + n ≤ g) ⊎ (g + m ≤ f))
    alone_rows f n g m a b c z = inl (a ∙ sym c, b ∙ sym z)

    rows_apart : (slot : SlotTree) (f n g m : ℕ) → IsObjectRow slot f n → IsObjectRow slot g m → ((f ≡ g) × (n ≡ m)) ⊎ ((f + n ≤ g) ⊎ (g + m ≤ f))
    rows_apart slot f n g m (OfOwn d there e a b) (OfOwn x too h c z) = apart_fields d x there too f n g m a b c z
    rows_apart slot f n g m (OfOwn d there e a b) (OfPrevious x too is h c z) = absurd (cc)
    rows_apart slot f n g m (OfOwn d there e a b) (OfInitial is h c z) = absurd (cc)
    rows_apart slot f n g m (OfOwn d there e a b) (OfNumber is h c z) = absurd (cc)
    rows_apart slot f n g m (OfPrevious d there is e a b) (OfOwn x too h c z) = absurd (cc)
    rows_apart slot f n g m (OfPrevious d there is e a b) (OfPrevious x too also h c z) = apart_fields d x there too f n g m a b c z
    rows_apart slot f n g m (OfPrevious d there is e a b) (OfInitial also h c z) = absurd (cc)
    rows_apart slot f n g m (OfPrevious d there is e a b) (OfNumber also h c z) = absurd (cc)
    rows_apart slot f n g m (OfInitial is e a b) (OfOwn x too h c z) = absurd (cc)
    rows_apart slot f n g m (OfInitial is e a b) (OfPrevious x too also h c z) = absurd (cc)
    rows_apart slot f n g m (OfInitial is e a b) (OfInitial also h c z) = alone_rows f n g m a b c z
    rows_apart slot f n g m (OfInitial is e a b) (OfNumber also h c z) = absurd (cc)
    rows_apart slot f n g m (OfNumber is e a b) (OfOwn x too h c z) = absurd (cc)
    rows_apart slot f n g m (OfNumber is e a b) (OfPrevious x too also h c z) = absurd (cc)
    rows_apart slot f n g m (OfNumber is e a b) (OfInitial also h c z) = absurd (cc)
    rows_apart slot f n g m (OfNumber is e a b) (OfNumber also h c z) = alone_rows f n g m a b c z

    rows_bare : (slot : SlotTree) (f n : ℕ) → IsObjectRow slot f n → without_field slot ≡ slot
    rows_bare slot f n (OfOwn d there e a b) = ap without_field e ∙ sym e
    rows_bare slot f n (OfPrevious d there is e a b) = ap without_field e ∙ sym e
    rows_bare slot f n (OfInitial is e a b) = ap without_field e ∙ sym e
    rows_bare slot f n (OfNumber is e a b) = ap without_field e ∙ sym e

    rows_alone : (slot : SlotTree) (f n : ℕ) → IsObjectRow slot f n → has_field slot ≡ false → (f ≡ 0) × (n ≡ 1)
    rows_alone slot f n (OfOwn d there e a b) h = absurd (false≢true (sym h ∙ ap has_field e))
    rows_alone slot f n (OfPrevious d there is e a b) h = absurd (false≢true (sym h ∙ ap has_field e))
    rows_alone slot f n (OfInitial is e a b) h = (a, b)
    rows_alone slot f n (OfNumber is e a b) h = (a, b)

    count_least : (d : Declaration) (n : ℕ) → In d (fields_of (declared_in s) object) → n ≡ count_of s d → 1 ≤ n
    count_least d n there b = let m = member_declared is_field (declared_in s) object d there in let l = facts.least d m.0 m.1 in omega (arith, b, l)

    count_most : (d : Declaration) (n : ℕ) → In d (fields_of (declared_in s) object) → n ≡ count_of s d → n ≤ most_elements
    count_most d n there b = let m = member_declared is_field (declared_in s) object d there in let l = facts.most d m.0 m.1 in omega (arith, b, l)

    rows_least : (slot : SlotTree) (f n : ℕ) → IsObjectRow slot f n → 1 ≤ n
    rows_least slot f n (OfOwn d there e a b) = count_least d n there b
    rows_least slot f n (OfPrevious d there is e a b) = count_least d n there b
    rows_least slot f n (OfInitial is e a b) = omega (arith, b)
    rows_least slot f n (OfNumber is e a b) = omega (arith, b)

    rows_most : (slot : SlotTree) (f n : ℕ) → IsObjectRow slot f n → n ≤ most_elements
    rows_most slot f n (OfOwn d there e a b) = count_most d n there b
    rows_most slot f n (OfPrevious d there is e a b) = count_most d n there b
    rows_most slot f n (OfInitial is e a b) = omega (arith, b)
    rows_most slot f n (OfNumber is e a b) = omega (arith, b)

    below : (d : Declaration) (f n k : ℕ) → In d (fields_of (declared_in s) object) → f ≡ field_number s object d → n ≡ count_of s d → k < n → f + k < length (model_fields s domains object)
    below d f n k there a b less = let w = within_model s domains object d there (own_place s facts is_field object d there) in omega (arith, a, b, less, w)

    rows_sound : (slot : SlotTree) (f n k : ℕ) → IsObjectRow slot f n → k < n → IsObjectSlot (model_object s domains object) (with_field slot (f + k))
    rows_sound slot f n k (OfOwn d there e a b) less = subst (λ (x : SlotTree). IsObjectSlot (model_object s domains object) (with_field x (f + k))) (sym e) (below d f n k there a b less)
    rows_sound slot f n k (OfPrevious d there is e a b) less =
        subst (λ (x : SlotTree). IsObjectSlot (model_object s domains object) (with_field x (f + k))) (sym e) (kind_state object.sort is, below d f n k there a b less)
    rows_sound slot f n k (OfInitial is e a b) less = subst (λ (x : SlotTree). IsObjectSlot (model_object s domains object) (with_field x (f + k))) (sym e) (kind_state object.sort is)
    rows_sound slot f n k (OfNumber is e a b) less = subst (λ (x : SlotTree). IsObjectSlot (model_object s domains object) (with_field x (f + k))) (sym e) (kind_resource object.sort is)

    pub object_rows : AreRows (IsObjectSlot (model_object s domains object)) IsObjectRow
    object_rows = record { bare = rows_bare; alone = rows_alone; least = rows_least; most = rows_most; apart = rows_apart; sound = rows_sound }

  -- ---- readings

  module _ (setting : Setting) (numbers : AreNumbers setting.turns) (inner : AreIndices (declared_in s) setting.at) where
    own_field : (d : Declaration) → In d (fields_of (declared_in s) object) → IsObjectRow (Own 0) (field_number s object d) (count_of s d)
    own_field d there = OfOwn d there refl refl refl

    good_sort : (d : Declaration) (so : Sort) → is_field so ≡ true → In d (fields_of (declared_in s) object) → IsGood IsObjectRow (declared_reading s setting object d so)
    good_sort d sort.Component i there = absurd (false≢true i)
    good_sort d (sort.Action base) i there = absurd (false≢true i)
    good_sort d (sort.Object word) i there = absurd (false≢true i)
    good_sort d sort.Enumeration i there = absurd (false≢true i)
    good_sort d sort.Function i there = absurd (false≢true i)
    good_sort d (sort.Instance of) i there = absurd (false≢true i)
    good_sort d (sort.Pool of) i there = absurd (false≢true i)
    good_sort d (sort.Item level) i there = absurd (false≢true i)
    good_sort d (sort.Field array) i there = good_field s IsObjectRow (Own 0) object d (own_field d there)
    good_sort d (sort.Reference of output) i there = absurd (false≢true i)
    good_sort d (sort.Claim of) i there = absurd (false≢true i)
    good_sort d (sort.Handle of) i there = absurd (false≢true i)
    good_sort d sort.Constraint i there = absurd (false≢true i)
    good_sort d sort.Parameter i there = absurd (false≢true i)
    good_sort d sort.Local i there = absurd (false≢true i)
    good_sort d sort.Index i there = absurd (false≢true i)

    -- an index (there are no locals in an object)
    good_index : (d : Declaration) → d.sort ≡ sort.Index → IsGood IsObjectRow (declared_reading s setting object d d.sort)
    good_index d e = subst (λ (so : Sort). IsGood IsObjectRow (declared_reading s setting object d so)) (sym e) (number_turn IsObjectRow setting.turns numbers d.name.place)

    good_item : (d : Declaration) (so : Sort) → (level : _) → so ≡ sort.Item level → IsGood IsObjectRow (declared_reading s setting object d so)
    good_item d so level e = subst (λ (so : Sort). IsGood IsObjectRow (declared_reading s setting object d so)) (sym e) tt

    good_owned : (name : NameId) (r : Referent) → IsOfObject (declared_in s) s.names setting.at name object r → IsGood IsObjectRow (name_reading s setting object r)
    good_owned name _ (AField d there is) = good_sort d d.sort is there
    good_owned name _ (AnInitial is) = good_thing s IsObjectRow IsFirst refl (OfInitial is refl refl refl)
    good_owned name _ (APrevious is) = tt
    good_owned name _ (AWord is) = good_thing s IsObjectRow Id refl (OfNumber is refl refl refl)

    head_owned : (name : NameId) (h r : Referent) (next : NameId) → IsOfObject (declared_in s) s.names setting.at name object h → is_head h ≡ true → named_behind (declared_in s) s.names h next ≡ Some r
        → IsGood IsObjectRow (behind_reading s object h [] r)
    head_owned name _ r next (AField d there is) head named = absurd (field_not_head d.sort is head)
    head_owned name _ r next (AnInitial is) head named = absurd (false≢true head)
    head_owned name _ r next (APrevious is) head named = by (field_of (declared_in s) object next) refl named
      where
        by : (o : Option Declaration) → field_of (declared_in s) object next ≡ o → referent o ≡ Some r → IsGood IsObjectRow (behind_reading s object (Previous object) [] r)
        by None had e = absurd (none-some r e)
        by (Some d) had e =
            let there = (field_found (declared_in s) object next d had).0 in
            subst (λ (x : Referent). IsGood IsObjectRow (behind_reading s object (Previous object) [] x)) (same_Some (Declared d) r e) (good_field s IsObjectRow (Prev 0) object d (OfPrevious d there is refl refl refl))
    head_owned name _ r next (AWord is) head named = absurd (false≢true head)

    no_index_head : (d : Declaration) → d.sort ≡ sort.Index → is_head_sort d.sort ≡ true → ⊥
    no_index_head d e head = false≢true (sym (ap is_head_sort e) ∙ head)

    no_item_head : (d : Declaration) (level : Scope) → d.sort ≡ sort.Item level → is_head_sort d.sort ≡ true → ⊥
    no_item_head d level e head = false≢true (sym (ap is_head_sort e) ∙ head)

    module _ (owner : setting.at.owner ≡ OfObject object) (plain : setting.at.traversal ≡ None) where
      its : (name : NameId) (r : Referent) → owned (declared_in s) s.names setting.at.owner name ≡ Some r → IsOfObject (declared_in s) s.names setting.at name object r
      its name r e = of_object (declared_in s) s.names setting.at name object r (sym (ap (λ (o : Owner). owned (declared_in s) s.names o name) owner) ∙ e)

      alone : (name : NameId) (r : Referent) → IsMeaning (declared_in s) s.names setting.at name r → IsGood IsObjectRow (name_reading s setting object r)
      alone name _ (OfInner n d there had) = good_index d (inner n there d had)
      alone name _ (OfOwner r e) = good_owned name r (its name r e)
      alone name _ (OfItem d level e) = good_item d d.sort level e

      behind : (name : NameId) (h r : Referent) (next : NameId) → IsMeaning (declared_in s) s.names setting.at name h → is_head h ≡ true → named_behind (declared_in s) s.names h next ≡ Some r → IsGood IsObjectRow (behind_reading s object h [] r)
      behind name _ r next (OfInner n d there had) head named = absurd (no_index_head d (inner n there d had) head)
      behind name _ r next (OfOwner h e) head named = head_owned name h r next (its name h e) head named
      behind name _ r next (OfItem d level e) head named = absurd (no_item_head d level e head)

      no_handle : (name : NameId) (h : Referent) → IsMeaning (declared_in s) s.names setting.at name h → is_handle_referent h ≡ true → ⊥
      no_handle name _ (OfInner n d there had) handle = no_index_head d (inner n there d had) (handle_is_head (Declared d) handle)
      no_handle name _ (OfOwner h e) handle = by h (its name h e) handle
        where
          by : (h : Referent) → IsOfObject (declared_in s) s.names setting.at name object h → is_handle_referent h ≡ true → ⊥
          by _ (AField d there is) handle = field_not_head d.sort is (handle_is_head (Declared d) handle)
          by _ (AnInitial is) handle = false≢true handle
          by _ (APrevious is) handle = false≢true handle
          by _ (AWord is) handle = false≢true handle
      no_handle name _ (OfItem d level e) handle = no_item_head d level e (handle_is_head (Declared d) handle)

      pub object_path : (p : PathPart) (before : List Referent) (last : Referent) → IsPathOf (declared_in s) s.names setting.at p before last → IsGood IsObjectRow (own_reading s setting object before last)
      object_path p _ _ (Alone r e value) = alone p.name.id r (meaning_of (declared_in s) s.names setting.at p.name.id r plain e)
      object_path p _ _ (Behind h r next e head named last) = behind p.name.id h r next (meaning_of (declared_in s) s.names setting.at p.name.id h plain e) head named
      object_path p _ _ (Twice h n r next after e handle named need named_too last) = absurd (no_handle p.name.id h (meaning_of (declared_in s) s.names setting.at p.name.id h plain e) handle)
