-- Rows of slots of actions have no slot in common, and are the same in derived actions.
use Rattle.std.proofs.Common.{◌≡◌, ◌⊎◌, ◌<◌, ◌≤◌, inl, inr, refl, sym, ap, subst, arith, ◌∙◌}
use Rattle.std.specs.Prelude.{ℕ, ◌+◌, Bool, false, List, slice_get, Some}
use Rattle.std.proofs.lemmas.Bool.{false≢true}
use Rattle.std.proofs.lemmas.Option.{same_Some}
use Rattle.pst_model.specs.Limits.{most_elements}
use Rattle.pst_model.specs.ConstraintTree.{SlotTree, Object, First, ClaimId, ClaimField, Through}
use Rattle.pst_ast.specs.declared.scope_declaration.Declaration.{Declaration}
use Rattle.pst_ast.specs.declared.scope_declaration.Sort.{Sort}
use Rattle.pst_ast.specs.Sorts.{is_field, is_reference, is_claim, is_handle}
use Rattle.pst_ast.specs.Lookups.{type_of}
use Rattle.pst_ast.specs.NameRules.{Reaches}
use Rattle.pst_tree.specs.Bases.{with_bases, members_that, fields_of, number_in, reference_number, claim_number, handle_number}
use Rattle.pst_terms.specs.Sources.{Sources, declared_in}
use Rattle.pst_terms.specs.Fields.{count_of, field_number_in, field_number}
use Rattle.pst_sound_model.specs.Blocks.{without_field, with_field, has_field, AreRows}
use Rattle.pst_sound_model.proofs.Members.{In, to_left}
use Rattle.pst_sound_model.proofs.Owned.{numbered, member_declared}
use Rattle.pst_sound_model.proofs.FieldRows.{fields_apart}
use Rattle.pst_sound_model.proofs.Facts.{AreFacts, own_place}
use Rattle.pst_sound_model.proofs.ActionReadings.{IsOwnRow, OfField, OfReference, OfFirst, OfClaim, OfClaimField, IsActionRow, OfItself, OfHandle}
use Rattle.pst_sound_model.proofs.ActionRows.{number_longer, field_longer}
use Rattle.pst_sound_model.proofs.Chains.{members_first}

module _ (s : Sources) (facts : AreFacts s) where
  abbrev ds : List Declaration
  ds = declared_in s

  abbrev Away : ℕ → ℕ → ℕ → ℕ → Type 0
  Away f n g m = ((f ≡ g) × (n ≡ m)) ⊎ ((f + n ≤ g) ⊎ (g + m ≤ f))

  same_member : (test : Sort → Bool) (owner d e : Declaration) → In d (members_that test ds owner) → In e (members_that test ds owner) → number_in (members_that test ds owner) d ≡ number_in (members_that test ds owner) e → d ≡ e
  same_member test owner d e there too same =
      same_Some d e (sym (numbered (members_that test ds owner) d there (own_place s facts test owner d there)) ∙ (ap (slice_get (members_that test ds owner)) same ∙ numbered (members_that test ds owner) e too (own_place s facts test owner e too)))

  same_type : (d e t u : Declaration) → d ≡ e → type_of ds d ≡ Some t → type_of ds e ≡ Some u → t ≡ u
  same_type d e t u same a b = same_Some t u (sym a ∙ (ap (type_of ds) same ∙ b))

  apart_fields : (t u d e : Declaration) → t ≡ u → In d (fields_of ds t) → In e (fields_of ds u) → (f n g m : ℕ) → f ≡ field_number s t d → n ≡ count_of s d → g ≡ field_number s u e → m ≡ count_of s e → Away f n g m
  apart_fields t u d e same there too f n g m a b c z =
      let here : In e (fields_of ds t) = subst (λ (x : Declaration). In e (fields_of ds x)) (sym same) too in
      let far = fields_apart s (fields_of ds t) d e there here (own_place s facts is_field t d there) (own_place s facts is_field t e here) in
      let number : field_number s t e ≡ g = ap (λ (x : Declaration). field_number s x e) same ∙ sym c in
      moved (field_number s t d) (count_of s d) (field_number s t e) (count_of s e) f n g m (sym a) (sym b) number (sym z) far
    where
      moved : (f n g m x y z w : ℕ) → f ≡ x → n ≡ y → g ≡ z → m ≡ w → Away f n g m → Away x y z w
      moved f n g m x y z w a b c d (inl e) = inl (omega (arith, a, c, e.0), omega (arith, b, d, e.1))
      moved f n g m x y z w a b c d (inr (inl h)) = inr (inl (omega (arith, a, b, c, h)))
      moved f n g m x y z w a b c d (inr (inr h)) = inr (inr (omega (arith, a, c, d, h)))

  alone_rows : (f n g m : ℕ) → f ≡ 0 → n ≡ 1 → g ≡ 0 → m ≡ 1 → Away f n g m
  alone_rows f n g m a b c z = inl (a ∙ sym c, b ∙ sym z)

  module _ (owner : Declaration) where
    own_apart : (slot : SlotTree) (f n g m : ℕ) → IsOwnRow s owner slot f n → IsOwnRow s owner slot g m → Away f n g m
    own_apart slot f n g m (OfField d there e a b) (OfField x too h c z) = apart_fields owner owner d x refl there too f n g m a b c z
    own_apart slot f n g m (OfField d there e a b) (OfReference r t x too typed inside h c z) = absurd (cc)
    own_apart slot f n g m (OfField d there e a b) (OfFirst r t too typed is h c z) = absurd (cc)
    own_apart slot f n g m (OfField d there e a b) (OfClaim x too h c z) = absurd (cc)
    own_apart slot f n g m (OfField d there e a b) (OfClaimField x t y too typed inside h c z) = absurd (cc)
    own_apart slot f n g m (OfReference r t d there typed inside e a b) (OfField x too h c z) = absurd (cc)
    own_apart slot f n g m (OfReference r t d there typed inside e a b) (OfReference q u x too also within h c z) =
        let number : reference_number ds owner r ≡ reference_number ds owner q = cc in
        apart_fields t u d x (same_type r q t u (same_member is_reference owner r q there too number) typed also) inside within f n g m a b c z
    own_apart slot f n g m (OfReference r t d there typed inside e a b) (OfFirst q u too also is h c z) = absurd (cc)
    own_apart slot f n g m (OfReference r t d there typed inside e a b) (OfClaim x too h c z) = absurd (cc)
    own_apart slot f n g m (OfReference r t d there typed inside e a b) (OfClaimField x u y too also within h c z) = absurd (cc)
    own_apart slot f n g m (OfFirst r t there typed is e a b) (OfField x too h c z) = absurd (cc)
    own_apart slot f n g m (OfFirst r t there typed is e a b) (OfReference q u x too also within h c z) = absurd (cc)
    own_apart slot f n g m (OfFirst r t there typed is e a b) (OfFirst q u too also so h c z) = alone_rows f n g m a b c z
    own_apart slot f n g m (OfFirst r t there typed is e a b) (OfClaim x too h c z) = absurd (cc)
    own_apart slot f n g m (OfFirst r t there typed is e a b) (OfClaimField x u y too also within h c z) = absurd (cc)
    own_apart slot f n g m (OfClaim w there e a b) (OfField x too h c z) = absurd (cc)
    own_apart slot f n g m (OfClaim w there e a b) (OfReference q u x too also within h c z) = absurd (cc)
    own_apart slot f n g m (OfClaim w there e a b) (OfFirst q u too also so h c z) = absurd (cc)
    own_apart slot f n g m (OfClaim w there e a b) (OfClaim x too h c z) = alone_rows f n g m a b c z
    own_apart slot f n g m (OfClaim w there e a b) (OfClaimField x u y too also within h c z) = absurd (cc)
    own_apart slot f n g m (OfClaimField w t d there typed inside e a b) (OfField x too h c z) = absurd (cc)
    own_apart slot f n g m (OfClaimField w t d there typed inside e a b) (OfReference q u x too also within h c z) = absurd (cc)
    own_apart slot f n g m (OfClaimField w t d there typed inside e a b) (OfFirst q u too also so h c z) = absurd (cc)
    own_apart slot f n g m (OfClaimField w t d there typed inside e a b) (OfClaim x too h c z) = absurd (cc)
    own_apart slot f n g m (OfClaimField w t d there typed inside e a b) (OfClaimField x u y too also within h c z) =
        let number : claim_number ds owner w ≡ claim_number ds owner x = cc in
        apart_fields t u d y (same_type w x t u (same_member is_claim owner w x there too number) typed also) inside within f n g m a b c z

    own_bare : (slot : SlotTree) (f n : ℕ) → IsOwnRow s owner slot f n → without_field slot ≡ slot
    own_bare slot f n (OfField d there e a b) = ap without_field e ∙ sym e
    own_bare slot f n (OfReference r t d there typed inside e a b) = ap without_field e ∙ sym e
    own_bare slot f n (OfFirst r t there typed is e a b) = ap without_field e ∙ sym e
    own_bare slot f n (OfClaim c there e a b) = ap without_field e ∙ sym e
    own_bare slot f n (OfClaimField c t d there typed inside e a b) = ap without_field e ∙ sym e

    own_alone : (slot : SlotTree) (f n : ℕ) → IsOwnRow s owner slot f n → has_field slot ≡ false → (f ≡ 0) × (n ≡ 1)
    own_alone slot f n (OfField d there e a b) h = absurd (false≢true (sym h ∙ ap has_field e))
    own_alone slot f n (OfReference r t d there typed inside e a b) h = absurd (false≢true (sym h ∙ ap has_field e))
    own_alone slot f n (OfFirst r t there typed is e a b) h = (a, b)
    own_alone slot f n (OfClaim c there e a b) h = (a, b)
    own_alone slot f n (OfClaimField c t d there typed inside e a b) h = absurd (false≢true (sym h ∙ ap has_field e))

    no_through : (slot inner : SlotTree) (k f n : ℕ) → IsOwnRow s owner slot f n → slot ≡ Through k inner → ⊥
    no_through slot inner k f n (OfField d there e a b) h = cc
    no_through slot inner k f n (OfReference r t d there typed inside e a b) h = cc
    no_through slot inner k f n (OfFirst r t there typed is e a b) h = cc
    no_through slot inner k f n (OfClaim c there e a b) h = cc
    no_through slot inner k f n (OfClaimField c t d there typed inside e a b) h = cc

  count_few : (t d : Declaration) (n : ℕ) → In d (fields_of ds t) → n ≡ count_of s d → (1 ≤ n) × (n ≤ most_elements)
  count_few t d n there b =
      let m = member_declared is_field ds t d there in
      let low = facts.least d m.0 m.1 in
      let high = facts.most d m.0 m.1 in (omega (arith, b, low), omega (arith, b, high))

  own_few : (owner : Declaration) (slot : SlotTree) (f n : ℕ) → IsOwnRow s owner slot f n → (1 ≤ n) × (n ≤ most_elements)
  own_few owner slot f n (OfField d there e a b) = count_few owner d n there b
  own_few owner slot f n (OfReference r t d there typed inside e a b) = count_few t d n inside b
  own_few owner slot f n (OfFirst r t there typed is e a b) = (omega (arith, b), omega (arith, b))
  own_few owner slot f n (OfClaim c there e a b) = (omega (arith, b), omega (arith, b))
  own_few owner slot f n (OfClaimField c t d there typed inside e a b) = count_few t d n inside b

  module _ (Steady : Declaration → Type 0) (owner : Declaration) where
    abbrev Row : SlotTree → ℕ → ℕ → Type 0
    Row = IsActionRow s Steady owner

    rows_apart : (slot : SlotTree) (f n g m : ℕ) → Row slot f n → Row slot g m → Away f n g m
    rows_apart slot f n g m (OfItself one) (OfItself two) = own_apart owner slot f n g m one two
    rows_apart slot f n g m (OfItself one) (OfHandle h a inner there typed steady row e) = absurd (no_through owner slot inner (handle_number ds owner h) f n one e)
    rows_apart slot f n g m (OfHandle h a inner there typed steady row e) (OfItself two) = absurd (no_through owner slot inner (handle_number ds owner h) g m two e)
    rows_apart slot f n g m (OfHandle h a inner there typed steady row e) (OfHandle i b other too also stays more d) =
        let number : handle_number ds owner h ≡ handle_number ds owner i = cc in
        let same : inner ≡ other = cc in
        let type : a ≡ b = same_type h i a b (same_member is_handle owner h i there too number) typed also in
        own_apart a inner f n g m row (subst (λ (x : SlotTree). IsOwnRow s a x g m) (sym same) (subst (λ (x : Declaration). IsOwnRow s x other g m) (sym type) more))

    rows_bare : (slot : SlotTree) (f n : ℕ) → Row slot f n → without_field slot ≡ slot
    rows_bare slot f n (OfItself one) = own_bare owner slot f n one
    rows_bare slot f n (OfHandle h a inner there typed steady row e) = ap without_field e ∙ (ap (Through (handle_number ds owner h)) (own_bare a inner f n row) ∙ sym e)

    rows_alone : (slot : SlotTree) (f n : ℕ) → Row slot f n → has_field slot ≡ false → (f ≡ 0) × (n ≡ 1)
    rows_alone slot f n (OfItself one) h = own_alone owner slot f n one h
    rows_alone slot f n (OfHandle i a inner there typed steady row e) h = own_alone a inner f n row (sym (ap has_field e) ∙ h)

    rows_few : (slot : SlotTree) (f n : ℕ) → Row slot f n → (1 ≤ n) × (n ≤ most_elements)
    rows_few slot f n (OfItself one) = own_few owner slot f n one
    rows_few slot f n (OfHandle h a inner there typed steady row e) = own_few a inner f n row

    pub action_rows : (IsSlot : SlotTree → Type 0) → ((slot : SlotTree) (first count k : ℕ) → Row slot first count → k < count → IsSlot (with_field slot (first + k))) → AreRows IsSlot Row
    action_rows IsSlot sound = record {
      bare = rows_bare;
      alone = rows_alone;
      least = λ slot f n row. (rows_few slot f n row).0;
      most = λ slot f n row. (rows_few slot f n row).1;
      apart = rows_apart;
      sound = sound;
    }

  -- ---- derived actions

  module _ (never : (d : Declaration) → In d ds → Reaches ds d d → ⊥) (d base : Declaration) (there : In d ds) (has : In base (with_bases ds d)) where
    among : (test : Sort → Bool) (x : Declaration) → In x (members_that test ds base) → In x (members_that test ds d)
    among test x here = let f = members_first ds never test d base there has in subst (In x) (sym f.1) (to_left (members_that test ds base) f.0 x here)

    same_number : (test : Sort → Bool) (x : Declaration) → In x (members_that test ds base) → number_in (members_that test ds base) x ≡ number_in (members_that test ds d) x
    same_number test x here =
        let f = members_first ds never test d base there has in
        sym (ap (λ (xs : List Declaration). number_in xs x) f.1 ∙ number_longer (members_that test ds base) f.0 x here)

    same_field : (x : Declaration) → In x (fields_of ds base) → field_number s base x ≡ field_number s d x
    same_field x here =
        let f = members_first ds never is_field d base there has in
        sym (ap (λ (xs : List Declaration). field_number_in s xs x) f.1 ∙ field_longer s (fields_of ds base) f.0 x here)

    own_derived : (slot : SlotTree) (f n : ℕ) → IsOwnRow s base slot f n → IsOwnRow s d slot f n
    own_derived slot f n (OfField x here e a b) = OfField x (among is_field x here) e (a ∙ same_field x here) b
    own_derived slot f n (OfReference r t x here typed inside e a b) = OfReference r t x (among is_reference r here) typed inside (e ∙ ap (λ (k : ℕ). Object k 0) (same_number is_reference r here)) a b
    own_derived slot f n (OfFirst r t here typed is e a b) = OfFirst r t (among is_reference r here) typed is (e ∙ ap First (same_number is_reference r here)) a b
    own_derived slot f n (OfClaim c here e a b) = OfClaim c (among is_claim c here) (e ∙ ap ClaimId (same_number is_claim c here)) a b
    own_derived slot f n (OfClaimField c t x here typed inside e a b) = OfClaimField c t x (among is_claim c here) typed inside (e ∙ ap (λ (k : ℕ). ClaimField k 0) (same_number is_claim c here)) a b

    pub row_derived : (Steady : Declaration → Type 0) (slot : SlotTree) (f n : ℕ) → IsActionRow s Steady base slot f n → IsActionRow s Steady d slot f n
    row_derived Steady slot f n (OfItself row) = OfItself (own_derived slot f n row)
    row_derived Steady slot f n (OfHandle h a inner here typed steady row e) = OfHandle h a inner (among is_handle h here) typed steady row (e ∙ ap (λ (k : ℕ). Through k inner) (same_number is_handle h here))
