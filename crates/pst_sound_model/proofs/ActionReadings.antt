-- Paths in the constraints of actions.
use Rattle.std.proofs.Common.{◌≡◌, ◌⊎◌, inl, inr, refl, sym, ap, subst, ◌∙◌}
use Rattle.std.specs.Prelude.{ℕ, zero, suc, ◌+◌, Bool, true, false, ◌&&◌, List, [], ◌∷◌, map, length, codes, Option, Some, None, if◌then◌else◌}
use Rattle.std.specs.Option.{option_or, option_and_then, option_map_or}
use Rattle.std.proofs.lemmas.Bool.{false≢true}
use Rattle.std.proofs.lemmas.Option.{none-some, same_Some}
use Rattle.pst_base.specs.declared.table.NameId.{NameId}
use Rattle.pst_model.specs.ConstraintTree.{SlotTree, Own, Object, First, ClaimId, ClaimField, Through}
use Rattle.pst_ast.specs.declared.scope_declaration.Declaration.{Declaration}
use Rattle.pst_ast.specs.declared.scope_declaration.Scope.{Scope}
use Rattle.pst_ast.specs.declared.scope_declaration.Sort.{Sort}
use Rattle.pst_ast.specs.declared.scope_declaration.Sort.TheVariants as sort
use Rattle.pst_ast.specs.declared.referent.Owner.{Owner}
use Rattle.pst_ast.specs.declared.referent.Owner.TheVariants.{OfAction}
use Rattle.pst_ast.specs.declared.referent.Referent.{Referent}
use Rattle.pst_ast.specs.declared.referent.Referent.TheVariants.{Declared, Initial, Number}
use Rattle.pst_ast.specs.declared.referent.PathPart.{PathPart}
use Rattle.pst_ast.specs.Sorts.{is_action, is_field, is_state, is_reference, is_claim, is_handle}
use Rattle.pst_ast.specs.Lookups.{type_named, base_in, action_beside, base_of, member_of, field_of, owned, referent, is_text, type_of, stands_for}
use Rattle.pst_ast.specs.Paths.{is_head, is_last, is_last_sort, is_head_sort, word_behind, member_behind, untyped_behind, named_behind, is_handle_referent}
use Rattle.pst_tree.specs.Bases.{bases_within, fields_of, references_of, claims_of, handles_of, reference_number, claim_number, handle_number}
use Rattle.pst_tree.proofs.InheritedDeclared.{base_there}
use Rattle.pst_terms.specs.Sources.{Sources, declared_in}
use Rattle.pst_terms.specs.Fields.{counted, count_of, field_number}
use Rattle.pst_terms.specs.Terms.{Reading, ANumber, AThing, AnArray}
use Rattle.pst_terms.specs.Readings.{Setting, is_inner_sort, nothing, map_reading, field_reading, typed_field, declared_reading, name_reading, need_reading, handle_reading, behind_reading, own_reading}
use Rattle.pst_sound_model.specs.Blocks.{with_field, IsBlock}
use Rattle.pst_sound_model.specs.Used.{IsGood}
use Rattle.pst_sound_model.proofs.Members.{In, in_get, in_append}
use Rattle.pst_sound_model.proofs.Owned.{member_is, of_sort, field_found, both_true}
use Rattle.pst_sound_model.proofs.FieldRows.{good_field, good_thing}
use Rattle.pst_sound_model.proofs.Facts.{AreFacts}
use Rattle.pst_sound_model.proofs.PathsRead.{IsPathOf, Alone, Behind, Twice}
use Rattle.pst_sound_model.proofs.Meanings.{AreIndices, IsMeaning, OfInner, OfOwner, OfItem, meaning_of}
use Rattle.pst_sound_model.proofs.ObjectReadings.{AreNumbers, number_turn, handle_is_head}

-- ---- bases are actions

beside_by : (t : Bool) (x b : Declaration) → (if t then Some x else None) ≡ Some b → (t ≡ true) × (x ≡ b)
beside_by true x b e = (refl, same_Some x b e)
beside_by false x b e = absurd (none-some b e)

pub base_is_action : (ds : List Declaration) (d b : Declaration) → base_of ds d ≡ Some b → is_action b.sort ≡ true
unfolding base_of
base_is_action ds d b e = by (option_and_then (type_named ds d.inside) (base_in d.sort)) e
  where
    by : (o : Option Declaration) → option_and_then (action_beside d) o ≡ Some b → is_action b.sort ≡ true
    by None e = absurd (none-some b e)
    by (Some x) e = let r = beside_by (is_action x.sort && _) x b e in subst (λ (y : Declaration). is_action y.sort ≡ true) r.1 (both_true (is_action x.sort) _ r.0).0

pub bases_are_actions : (ds : List Declaration) (k : ℕ) (d b : Declaration) → In d ds → is_action d.sort ≡ true → In b (bases_within k ds d) → In b ds × (is_action b.sort ≡ true)
bases_are_actions ds zero d b there is has = absurd has
bases_are_actions ds (suc k) d b there is has = by (base_of ds d) refl (in_append (option_map_or (bases_within k ds) (base_of ds d) []) (d ∷ []) b has) (bases_are_actions ds k)
  where
    last : In b (d ∷ []) → In b ds × (is_action b.sort ≡ true)
    last (inl e) = subst (λ (x : Declaration). In x ds × (is_action x.sort ≡ true)) e (there, is)
    last (inr h) = absurd h

    by : (o : Option Declaration) → base_of ds d ≡ o → In b (option_map_or (bases_within k ds) o []) ⊎ In b (d ∷ []) → ((x y : Declaration) → In x ds → is_action x.sort ≡ true → In y (bases_within k ds x) → In y ds × (is_action y.sort ≡ true)) → In b ds × (is_action b.sort ≡ true)
    by o e (inr h) on = last h
    by None e (inl h) on = absurd h
    by (Some x) e (inl h) on = let t = base_there ds d x e in on x b (in_get ds t.0 x t.1) (base_is_action ds d x e) h

action_not_inner : (so : Sort) → is_action so ≡ true → is_inner_sort so ≡ false
action_not_inner sort.Component e = refl
action_not_inner (sort.Action base) e = refl
action_not_inner (sort.Object word) e = refl
action_not_inner sort.Enumeration e = refl
action_not_inner sort.Function e = refl
action_not_inner (sort.Instance of) e = refl
action_not_inner (sort.Pool of) e = refl
action_not_inner (sort.Item level) e = refl
action_not_inner (sort.Field array) e = refl
action_not_inner (sort.Reference of output) e = refl
action_not_inner (sort.Claim of) e = refl
action_not_inner (sort.Handle of) e = refl
action_not_inner sort.Constraint e = refl
action_not_inner sort.Parameter e = refl
action_not_inner sort.Local e = absurd (false≢true e)
action_not_inner sort.Index e = absurd (false≢true e)

last_is_field : (so : Sort) → is_last_sort so ≡ true → is_field so ≡ true
last_is_field sort.Component e = absurd (false≢true e)
last_is_field (sort.Action base) e = absurd (false≢true e)
last_is_field (sort.Object word) e = absurd (false≢true e)
last_is_field sort.Enumeration e = absurd (false≢true e)
last_is_field sort.Function e = absurd (false≢true e)
last_is_field (sort.Instance of) e = absurd (false≢true e)
last_is_field (sort.Pool of) e = absurd (false≢true e)
last_is_field (sort.Item level) e = absurd (false≢true e)
last_is_field (sort.Field array) e = refl
last_is_field (sort.Reference of output) e = absurd (false≢true e)
last_is_field (sort.Claim of) e = absurd (false≢true e)
last_is_field (sort.Handle of) e = absurd (false≢true e)
last_is_field sort.Constraint e = absurd (false≢true e)
last_is_field sort.Parameter e = absurd (false≢true e)
last_is_field sort.Local e = absurd (false≢true e)
last_is_field sort.Index e = absurd (false≢true e)

handle_no_claim : (so : Sort) → is_handle so ≡ true → is_claim so ≡ true → ⊥
handle_no_claim sort.Component handle claim = absurd (false≢true claim)
handle_no_claim (sort.Action base) handle claim = absurd (false≢true claim)
handle_no_claim (sort.Object word) handle claim = absurd (false≢true claim)
handle_no_claim sort.Enumeration handle claim = absurd (false≢true claim)
handle_no_claim sort.Function handle claim = absurd (false≢true claim)
handle_no_claim (sort.Instance of) handle claim = absurd (false≢true claim)
handle_no_claim (sort.Pool of) handle claim = absurd (false≢true claim)
handle_no_claim (sort.Item level) handle claim = absurd (false≢true claim)
handle_no_claim (sort.Field array) handle claim = absurd (false≢true claim)
handle_no_claim (sort.Reference of output) handle claim = absurd (false≢true claim)
handle_no_claim (sort.Claim of) handle claim = absurd (false≢true handle)
handle_no_claim (sort.Handle of) handle claim = absurd (false≢true claim)
handle_no_claim sort.Constraint handle claim = absurd (false≢true claim)
handle_no_claim sort.Parameter handle claim = absurd (false≢true claim)
handle_no_claim sort.Local handle claim = absurd (false≢true claim)
handle_no_claim sort.Index handle claim = absurd (false≢true claim)

module _ (s : Sources) where
  -- fields, and parts of references and claims, of an action
  pub data IsOwnRow (owner : Declaration) (slot : SlotTree) (first count : ℕ) : Type 0 where
    OfField : (d : Declaration) → In d (fields_of (declared_in s) owner) → slot ≡ Own 0 → first ≡ field_number s owner d → count ≡ count_of s d → IsOwnRow owner slot first count
    OfReference : (r t d : Declaration) → In r (references_of (declared_in s) owner) → type_of (declared_in s) r ≡ Some t → In d (fields_of (declared_in s) t) → slot ≡ Object (reference_number (declared_in s) owner r) 0
        → first ≡ field_number s t d → count ≡ count_of s d → IsOwnRow owner slot first count
    OfFirst : (r t : Declaration) → In r (references_of (declared_in s) owner) → type_of (declared_in s) r ≡ Some t → is_state t.sort ≡ true → slot ≡ First (reference_number (declared_in s) owner r) → first ≡ 0 → count ≡ 1
        → IsOwnRow owner slot first count
    OfClaim : (c : Declaration) → In c (claims_of (declared_in s) owner) → slot ≡ ClaimId (claim_number (declared_in s) owner c) → first ≡ 0 → count ≡ 1 → IsOwnRow owner slot first count
    OfClaimField : (c t d : Declaration) → In c (claims_of (declared_in s) owner) → type_of (declared_in s) c ≡ Some t → In d (fields_of (declared_in s) t) → slot ≡ ClaimField (claim_number (declared_in s) owner c) 0
        → first ≡ field_number s t d → count ≡ count_of s d → IsOwnRow owner slot first count

  -- those of the action itself, or of what a handle traverses
  pub data IsActionRow (Steady : Declaration → Type 0) (owner : Declaration) (slot : SlotTree) (first count : ℕ) : Type 0 where
    OfItself : IsOwnRow owner slot first count → IsActionRow Steady owner slot first count
    OfHandle : (h a : Declaration) (inner : SlotTree) → In h (handles_of (declared_in s) owner) → type_of (declared_in s) h ≡ Some a → Steady h → IsOwnRow a inner first count → slot ≡ Through (handle_number (declared_in s) owner h) inner
        → IsActionRow Steady owner slot first count

  -- ---- behind a reference or claim

  module _ (owner r t : Declaration) (typed : type_of (declared_in s) r ≡ Some t) where
    abbrev ds : List Declaration
    ds = declared_in s

    typed_good : (key : SlotTree) (d : Declaration) → IsOwnRow owner key (field_number s t d) (count_of s d) → IsGood (IsOwnRow owner) (typed_field s (with_field key) r d)
    typed_good key d row = subst (λ (o : Option Declaration). IsGood (IsOwnRow owner) (option_map_or (λ type. field_reading s (with_field key) type d) o nothing)) (sym typed) (good_field s (IsOwnRow owner) key t d row)

    reference_good : (of : _) (output : Bool) → In r (references_of ds owner) → (name : NameId) (last : Referent) → member_behind ds s.names (sort.Reference of output) t name ≡ Some last → IsGood (IsOwnRow owner) (need_reading s owner r (sort.Reference of output) last)
    reference_good of output there name last e = by (field_of ds t name) refl (is_state t.sort) refl (is_text s.names (codes "initial") name) e
      where
        by : (o : Option Declaration) → field_of ds t name ≡ o → (a : Bool) → is_state t.sort ≡ a → (b : Bool) → option_or (referent o) (if a && b then Some (Initial t) else None) ≡ Some last → IsGood (IsOwnRow owner) (need_reading s owner r (sort.Reference of output) last)
        by (Some d) had a is b e =
            subst (λ (x : Referent). IsGood (IsOwnRow owner) (need_reading s owner r (sort.Reference of output) x)) (same_Some (Declared d) last e)
            (typed_good (Object (reference_number ds owner r) 0) d (OfReference r t d there typed (field_found ds t name d had).0 refl refl refl))
        by None had true is true e =
            subst (λ (x : Referent). IsGood (IsOwnRow owner) (need_reading s owner r (sort.Reference of output) x)) (same_Some (Initial t) last e)
            (good_thing s (IsOwnRow owner) (First (reference_number ds owner r)) refl (OfFirst r t there typed is refl refl refl))
        by None had true is false e = absurd (none-some last e)
        by None had false is b e = absurd (none-some last e)

    claim_good : (of : _) → In r (claims_of ds owner) → (name : NameId) (last : Referent) → member_behind ds s.names (sort.Claim of) t name ≡ Some last → IsGood (IsOwnRow owner) (need_reading s owner r (sort.Claim of) last)
    claim_good of there name last e = by (field_of ds t name) refl (is_text s.names (codes "instance_id") name) e
      where
        by : (o : Option Declaration) → field_of ds t name ≡ o → (b : Bool) → option_or (referent o) (if b then Some (Number t) else None) ≡ Some last → IsGood (IsOwnRow owner) (need_reading s owner r (sort.Claim of) last)
        by (Some d) had b e =
            subst (λ (x : Referent). IsGood (IsOwnRow owner) (need_reading s owner r (sort.Claim of) x)) (same_Some (Declared d) last e)
            (typed_good (ClaimField (claim_number ds owner r) 0) d (OfClaimField r t d there typed (field_found ds t name d had).0 refl refl refl))
        by None had true e =
            subst (λ (x : Referent). IsGood (IsOwnRow owner) (need_reading s owner r (sort.Claim of) x)) (same_Some (Number t) last e)
            (good_thing s (IsOwnRow owner) (ClaimId (claim_number ds owner r)) refl (OfClaim r there refl refl refl))
        by None had false e = absurd (none-some last e)

    pub need_good : (so : Sort) → (is_reference so ≡ true → In r (references_of ds owner)) → (is_claim so ≡ true → In r (claims_of ds owner)) → (name : NameId) (last : Referent) → member_behind ds s.names so t name ≡ Some last
        → IsGood (IsOwnRow owner) (need_reading s owner r so last)
    need_good sort.Component a b name last e = tt
    need_good (sort.Action base) a b name last e = tt
    need_good (sort.Object word) a b name last e = tt
    need_good sort.Enumeration a b name last e = tt
    need_good sort.Function a b name last e = tt
    need_good (sort.Instance of) a b name last e = tt
    need_good (sort.Pool of) a b name last e = tt
    need_good (sort.Item level) a b name last e = tt
    need_good (sort.Field array) a b name last e = tt
    need_good (sort.Reference of output) a b name last e = reference_good of output (a refl) name last e
    need_good (sort.Claim of) a b name last e = claim_good of (b refl) name last e
    need_good (sort.Handle of) a b name last e = tt
    need_good sort.Constraint a b name last e = tt
    need_good sort.Parameter a b name last e = tt
    need_good sort.Local a b name last e = tt
    need_good sort.Index a b name last e = tt

  -- the number of a claim, whatever its type
  number_good : (owner c object : Declaration) (so : Sort) → is_claim so ≡ true → In c (claims_of (declared_in s) owner) → IsGood (IsOwnRow owner) (need_reading s owner c so (Number object))
  number_good owner c object sort.Component e there = absurd (false≢true e)
  number_good owner c object (sort.Action base) e there = absurd (false≢true e)
  number_good owner c object (sort.Object word) e there = absurd (false≢true e)
  number_good owner c object sort.Enumeration e there = absurd (false≢true e)
  number_good owner c object sort.Function e there = absurd (false≢true e)
  number_good owner c object (sort.Instance of) e there = absurd (false≢true e)
  number_good owner c object (sort.Pool of) e there = absurd (false≢true e)
  number_good owner c object (sort.Item level) e there = absurd (false≢true e)
  number_good owner c object (sort.Field array) e there = absurd (false≢true e)
  number_good owner c object (sort.Reference of output) e there = absurd (false≢true e)
  number_good owner c object (sort.Claim of) e there = good_thing s (IsOwnRow owner) (ClaimId (claim_number (declared_in s) owner c)) refl (OfClaim c there refl refl refl)
  number_good owner c object (sort.Handle of) e there = absurd (false≢true e)
  number_good owner c object sort.Constraint e there = absurd (false≢true e)
  number_good owner c object sort.Parameter e there = absurd (false≢true e)
  number_good owner c object sort.Local e there = absurd (false≢true e)
  number_good owner c object sort.Index e there = absurd (false≢true e)

  -- ---- through a handle

  through_row : (n : ℕ) (slot : SlotTree) (first count : ℕ) → map (Through n) (map (with_field slot) (counted first count)) ≡ map (with_field (Through n slot)) (counted first count)
  through_row n slot first zero = refl
  through_row n slot first (suc count) = ap (λ (xs : List SlotTree). Through n (with_field slot first) ∷ xs) (through_row n slot (first + 1) count)

  module _ (Inner Outer : SlotTree → ℕ → ℕ → Type 0) (n : ℕ) (lift : (slot : SlotTree) (first count : ℕ) → Inner slot first count → Outer (Through n slot) first count) where
    through_block : (b : List SlotTree) → IsBlock Inner b → IsBlock Outer (map (Through n) b)
    through_block b k = record { slot = Through n k.slot; first = k.first; count = k.count; row = lift k.slot k.first k.count k.row; is = ap (map (Through n)) k.is ∙ through_row n k.slot k.first k.count }

    pub through_good : (r : Reading SlotTree) → IsGood Inner r → IsGood Outer (map_reading (Through n) r)
    through_good (ANumber k) g = tt
    through_good (AThing x) g = through_block (x ∷ []) g
    through_good (AnArray elements) g = through_block elements g

  -- rows of one kind among those of another
  module _ (Inner Outer : SlotTree → ℕ → ℕ → Type 0) (lift : (slot : SlotTree) (first count : ℕ) → Inner slot first count → Outer slot first count) where
    other_block : (b : List SlotTree) → IsBlock Inner b → IsBlock Outer b
    other_block b k = record { slot = k.slot; first = k.first; count = k.count; row = lift k.slot k.first k.count k.row; is = k.is }

    pub other_good : (r : Reading SlotTree) → IsGood Inner r → IsGood Outer r
    other_good (ANumber k) g = tt
    other_good (AThing x) g = other_block (x ∷ []) g
    other_good (AnArray elements) g = other_block elements g

  module _ (facts : AreFacts s) (owner : Declaration) (there : In owner (declared_in s)) (is : is_action owner.sort ≡ true) where
    -- a member of an action is no index and no local
    pub not_inner : (name : NameId) (d : Declaration) → member_of (declared_in s) owner name ≡ Some d → is_inner_sort d.sort ≡ true → ⊥
    not_inner name d e inner =
        let m = member_is (declared_in s) owner name d e in
        let b = bases_are_actions (declared_in s) (length (declared_in s)) owner m.from there is m.base in
        facts.scopes d m.from m.there b.0 inner (action_not_inner m.from.sort b.1) m.scope

    member_good : (setting : Setting) (name : NameId) (d : Declaration) (so : Sort) → member_of (declared_in s) owner name ≡ Some d → d.sort ≡ so → IsGood (IsOwnRow owner) (declared_reading s setting owner d so)
    member_good setting name d sort.Component e h = tt
    member_good setting name d (sort.Action base) e h = tt
    member_good setting name d (sort.Object word) e h = tt
    member_good setting name d sort.Enumeration e h = tt
    member_good setting name d sort.Function e h = tt
    member_good setting name d (sort.Instance of) e h = tt
    member_good setting name d (sort.Pool of) e h = tt
    member_good setting name d (sort.Item level) e h = by d
      where
        by : (d : Declaration) → IsGood (IsOwnRow owner) (declared_reading s setting owner d (sort.Item level))
        by d = tt
    member_good setting name d (sort.Field array) e h = good_field s (IsOwnRow owner) (Own 0) owner d (OfField d (of_sort (declared_in s) owner name d is_field e (ap is_field h)) refl refl refl)
    member_good setting name d (sort.Reference of output) e h = tt
    member_good setting name d (sort.Claim of) e h = tt
    member_good setting name d (sort.Handle of) e h = tt
    member_good setting name d sort.Constraint e h = tt
    member_good setting name d sort.Parameter e h = tt
    member_good setting name d sort.Local e h = absurd (not_inner name d e (ap is_inner_sort h))
    member_good setting name d sort.Index e h = absurd (not_inner name d e (ap is_inner_sort h))

    abbrev pub Steadies : (Declaration → Type 0) → Referent → Type 0
    Steadies Steady h = (d : Declaration) → h ≡ Declared d → is_handle d.sort ≡ true → Steady d

    module _ (Steady : Declaration → Type 0) (setting : Setting) (numbers : AreNumbers setting.turns) (indices : AreIndices (declared_in s) setting.at) where
      abbrev Row : SlotTree → ℕ → ℕ → Type 0
      Row = IsActionRow Steady owner

      its_good : (r : Reading SlotTree) → IsGood (IsOwnRow owner) r → IsGood Row r
      its_good r g = other_good (IsOwnRow owner) Row (λ slot first count row. OfItself row) r g

      inner_good : (d : Declaration) → d.sort ≡ sort.Index → IsGood Row (declared_reading s setting owner d d.sort)
      inner_good d e = subst (λ (so : Sort). IsGood Row (declared_reading s setting owner d so)) (sym e) (number_turn Row setting.turns numbers d.name.place)

      item_good : (d : Declaration) (level : Scope) → d.sort ≡ sort.Item level → IsGood Row (declared_reading s setting owner d d.sort)
      item_good d level e = subst (λ (so : Sort). IsGood Row (declared_reading s setting owner d so)) (sym e) tt

      no_index_head : (d : Declaration) → d.sort ≡ sort.Index → is_head_sort d.sort ≡ true → ⊥
      no_index_head d e head = false≢true (sym (ap is_head_sort e) ∙ head)

      no_item_head : (d : Declaration) (level : Scope) → d.sort ≡ sort.Item level → is_head_sort d.sort ≡ true → ⊥
      no_item_head d level e head = false≢true (sym (ap is_head_sort e) ∙ head)

      -- ---- behind a member

      -- what a name behind a handle, reference or claim stands for: a member of its type, or the number of a claim without one
      abbrev IsTyped : Declaration → NameId → Referent → Type 0
      IsTyped h name r = (t : Declaration) × (type_of (declared_in s) h ≡ Some t) × (member_behind (declared_in s) s.names h.sort t name ≡ Some r)

      untyped_is : (h : Declaration) (r : Referent) (claim text : Bool) → (if claim && text then Some (Number h) else None) ≡ Some r → (claim ≡ true) × (Number h ≡ r)
      untyped_is h r true true e = (refl, same_Some (Number h) r e)
      untyped_is h r true false e = absurd (none-some r e)
      untyped_is h r false text e = absurd (none-some r e)

      typed_or_number : (h : Declaration) (name : NameId) (r : Referent) → named_behind (declared_in s) s.names (Declared h) name ≡ Some r → IsTyped h name r ⊎ ((is_claim h.sort ≡ true) × (Number h ≡ r))
      typed_or_number h name r e = by (type_of (declared_in s) h) refl e
        where
          by : (o : Option Declaration) → type_of (declared_in s) h ≡ o → option_map_or (λ type. member_behind (declared_in s) s.names h.sort type name) o (untyped_behind s.names h name) ≡ Some r
              → IsTyped h name r ⊎ ((is_claim h.sort ≡ true) × (Number h ≡ r))
          by None had e = inr (untyped_is h r (is_claim h.sort) (is_text s.names (codes "instance_id") name) e)
          by (Some t) had e = inl (t, had, e)

      typed_behind : (h : Declaration) (name : NameId) (r : Referent) → is_handle h.sort ≡ true → named_behind (declared_in s) s.names (Declared h) name ≡ Some r → IsTyped h name r
      typed_behind h name r handle e = by (typed_or_number h name r e)
        where
          by : IsTyped h name r ⊎ ((is_claim h.sort ≡ true) × (Number h ≡ r)) → IsTyped h name r
          by (inl typed) = typed
          by (inr number) = absurd (handle_no_claim h.sort handle number.0)

      of_handle : (h t : Declaration) (name : NameId) (r : Referent) → is_handle h.sort ≡ true → member_behind (declared_in s) s.names h.sort t name ≡ Some r → (d : Declaration) × (member_of (declared_in s) t name ≡ Some d) × (r ≡ Declared d)
      of_handle h t name r handle e = by (is_handle h.sort) handle (member_of (declared_in s) t name) refl e
        where
          by : (b : Bool) → b ≡ true → (o : Option Declaration) → member_of (declared_in s) t name ≡ o → (if b then referent o else option_or (referent (field_of (declared_in s) t name)) (word_behind s.names h.sort t name)) ≡ Some r
              → (d : Declaration) × (member_of (declared_in s) t name ≡ Some d) × (r ≡ Declared d)
          by true is (Some d) had e = (d, had, sym (same_Some (Declared d) r e))
          by true is None had e = absurd (none-some r e)
          by false is o had e = absurd (false≢true is)

      need_of_member : (of from : Declaration) (name : NameId) → member_of (declared_in s) from name ≡ Some of → (next : NameId) (r : Referent) → named_behind (declared_in s) s.names (Declared of) next ≡ Some r
          → IsGood (IsOwnRow from) (need_reading s from of of.sort r)
      need_of_member of from name e next r named = by (typed_or_number of next r named)
        where
          by : IsTyped of next r ⊎ ((is_claim of.sort ≡ true) × (Number of ≡ r)) → IsGood (IsOwnRow from) (need_reading s from of of.sort r)
          by (inl t) = need_good from of t.0 t.1 of.sort (λ h. of_sort (declared_in s) from name of is_reference e h) (λ h. of_sort (declared_in s) from name of is_claim e h) next r t.2
          by (inr number) =
              subst (λ (x : Referent). IsGood (IsOwnRow from) (need_reading s from of of.sort x)) number.1 (number_good from of of of.sort number.0 (of_sort (declared_in s) from name of is_claim e number.0))

      through : (h a : Declaration) (name : NameId) → member_of (declared_in s) owner name ≡ Some h → is_handle h.sort ≡ true → type_of (declared_in s) h ≡ Some a → Steady h → (before : List Referent) (r : Referent) → IsGood (IsOwnRow a) (handle_reading s (Some a) before r)
          → IsGood Row (map_reading (Through (handle_number (declared_in s) owner h)) (handle_reading s (type_of (declared_in s) h) before r))
      through h a name e handle typed steady before r g =
          subst (λ (o : Option Declaration). IsGood Row (map_reading (Through (handle_number (declared_in s) owner h)) (handle_reading s o before r))) (sym typed)
          (through_good (IsOwnRow a) Row (handle_number (declared_in s) owner h) (λ slot first count row. OfHandle h a slot (of_sort (declared_in s) owner name h is_handle e handle) typed steady row refl) (handle_reading s (Some a) before r) g)

      field_behind : (a d : Declaration) (name : NameId) → member_of (declared_in s) a name ≡ Some d → is_last_sort d.sort ≡ true → IsGood (IsOwnRow a) (handle_reading s (Some a) [] (Declared d))
      field_behind a d name e last = good_field s (IsOwnRow a) (Own 0) a d (OfField d (of_sort (declared_in s) a name d is_field e (last_is_field d.sort last)) refl refl refl)

      -- behind a member h
      behind_member : (h : Declaration) (name next : NameId) (r : Referent) → member_of (declared_in s) owner name ≡ Some h → (is_handle h.sort ≡ true → Steady h) → named_behind (declared_in s) s.names (Declared h) next ≡ Some r → is_last r ≡ true
          → IsGood Row (behind_reading s owner (Declared h) [] r)
      behind_member h name next r e steady named last = by (is_handle h.sort) refl
        where
          by : (b : Bool) → is_handle h.sort ≡ b → IsGood Row (if b then map_reading (Through (handle_number (declared_in s) owner h)) (handle_reading s (type_of (declared_in s) h) [] r) else need_reading s owner h h.sort r)
          by true handle =
              let t = typed_behind h next r handle named in
              let d = of_handle h t.0 next r handle t.2 in
              through h t.0 name e handle t.1 (steady handle) [] r
              (subst (λ (x : Referent). IsGood (IsOwnRow t.0) (handle_reading s (Some t.0) [] x)) (sym d.2) (field_behind t.0 d.0 next d.1 (subst (λ (x : Referent). is_last x ≡ true) d.2 last)))
          by false other = its_good (need_reading s owner h h.sort r) (need_of_member h owner name e next r named)

      twice_member : (h : Declaration) (n : Referent) (name next after : NameId) (r : Referent) → member_of (declared_in s) owner name ≡ Some h → is_handle h.sort ≡ true → Steady h → named_behind (declared_in s) s.names (Declared h) next ≡ Some n
          → named_behind (declared_in s) s.names n after ≡ Some r → IsGood Row (behind_reading s owner (Declared h) (n ∷ []) r)
      twice_member h n name next after r e handle steady named also =
          let t = typed_behind h next n handle named in
          let d = of_handle h t.0 next n handle t.2 in
          subst (λ (b : Bool). IsGood Row (if b then map_reading (Through (handle_number (declared_in s) owner h)) (handle_reading s (type_of (declared_in s) h) (n ∷ []) r) else need_reading s owner h h.sort r)) (sym handle)
          (through h t.0 name e handle t.1 steady (n ∷ []) r
          (subst (λ (x : Referent). IsGood (IsOwnRow t.0) (handle_reading s (Some t.0) (x ∷ []) r)) (sym d.2)
          (need_of_member d.0 t.0 next d.1 after r (subst (λ (x : Referent). named_behind (declared_in s) s.names x after ≡ Some r) d.2 also))))

      -- ---- names and paths

      module _ (mine : setting.at.owner ≡ OfAction owner) (plain : setting.at.traversal ≡ None) where
        its_member : (name : NameId) (r : Referent) → owned (declared_in s) s.names setting.at.owner name ≡ Some r → (d : Declaration) × (member_of (declared_in s) owner name ≡ Some d) × (r ≡ Declared d)
        its_member name r e = by (member_of (declared_in s) owner name) refl (sym (ap (λ (o : Owner). owned (declared_in s) s.names o name) mine) ∙ e)
          where
            by : (o : Option Declaration) → member_of (declared_in s) owner name ≡ o → referent o ≡ Some r → (d : Declaration) × (member_of (declared_in s) owner name ≡ Some d) × (r ≡ Declared d)
            by None had e = absurd (none-some r e)
            by (Some d) had e = (d, had, sym (same_Some (Declared d) r e))

        alone : (name : NameId) (r : Referent) → IsMeaning (declared_in s) s.names setting.at name r → IsGood Row (name_reading s setting owner r)
        alone name _ (OfInner n d there had) = inner_good d (indices n there d had)
        alone name _ (OfOwner r e) =
            let d = its_member name r e in
            subst (λ (x : Referent). IsGood Row (name_reading s setting owner x)) (sym d.2) (its_good (declared_reading s setting owner d.0 d.0.sort) (member_good setting name d.0 d.0.sort d.1 refl))
        alone name _ (OfItem d level e) = item_good d level e

        behind : (name next : NameId) (h r : Referent) → IsMeaning (declared_in s) s.names setting.at name h → Steadies Steady h → is_head h ≡ true → named_behind (declared_in s) s.names h next ≡ Some r → is_last r ≡ true → IsGood Row (behind_reading s owner h [] r)
        behind name next _ r (OfInner n d there had) steady head named last = absurd (no_index_head d (indices n there d had) head)
        behind name next _ r (OfOwner h e) steady head named last =
            let d = its_member name h e in
            subst (λ (x : Referent). IsGood Row (behind_reading s owner x [] r)) (sym d.2) (behind_member d.0 name next r d.1 (λ handle. steady d.0 d.2 handle) (subst (λ (x : Referent). named_behind (declared_in s) s.names x next ≡ Some r) d.2 named) last)
        behind name next _ r (OfItem d level e) steady head named last = absurd (no_item_head d level e head)

        twice : (name next after : NameId) (h n r : Referent) → IsMeaning (declared_in s) s.names setting.at name h → Steadies Steady h → is_handle_referent h ≡ true → named_behind (declared_in s) s.names h next ≡ Some n → named_behind (declared_in s) s.names n after ≡ Some r
            → IsGood Row (behind_reading s owner h (n ∷ []) r)
        twice name next after _ n r (OfInner x d there had) steady handle named also = absurd (no_index_head d (indices x there d had) (handle_is_head (Declared d) handle))
        twice name next after _ n r (OfOwner h e) steady handle named also =
            let d = its_member name h e in
            let here : is_handle d.0.sort ≡ true = subst (λ (x : Referent). is_handle_referent x ≡ true) d.2 handle in
            subst (λ (x : Referent). IsGood Row (behind_reading s owner x (n ∷ []) r)) (sym d.2)
            (twice_member d.0 n name next after r d.1 here (steady d.0 d.2 here) (subst (λ (x : Referent). named_behind (declared_in s) s.names x next ≡ Some n) d.2 named) also)
        twice name next after _ n r (OfItem d level e) steady handle named also = absurd (no_item_head d level e (handle_is_head (Declared d) handle))

        pub action_path : (p : PathPart) (before : List Referent) (last : Referent) → IsPathOf (declared_in s) s.names setting.at p before last → ((h : Declaration) → stands_for (declared_in s) s.names setting.at p.name.id ≡ Some (Declared h) → is_handle h.sort ≡ true → Steady h)
            → IsGood Row (own_reading s setting owner before last)
        action_path p _ _ (Alone r e value) steady = alone p.name.id r (meaning_of (declared_in s) s.names setting.at p.name.id r plain e)
        action_path p _ _ (Behind h r next e head named last) steady =
            behind p.name.id next h r (meaning_of (declared_in s) s.names setting.at p.name.id h plain e) (λ d same handle. steady d (e ∙ ap (λ (x : Referent). Some x) same) handle) head named last
        action_path p _ _ (Twice h n r next after e handle named need also last) steady =
            twice p.name.id next after h n r (meaning_of (declared_in s) s.names setting.at p.name.id h plain e) (λ d same is. steady d (e ∙ ap (λ (x : Referent). Some x) same) is) handle named also
