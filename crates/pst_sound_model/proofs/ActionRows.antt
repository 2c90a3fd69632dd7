-- What the slots of constraints of actions name in the model.
use Rattle.std.proofs.Common.{◌≡◌, ◌<◌, refl, sym, ap, subst, arith, ◌∙◌}
use Rattle.std.specs.Prelude.{ℕ, ◌+◌, Bool, true, false, not, List, [], ◌∷◌, ◌++◌, map, length, slice_get, Option, Some, None, if◌then◌else◌, cond, option_and_then}
use Rattle.std.specs.Option.{IsSomeAnd, option_map_or, option_map}
use Rattle.std.proofs.lemmas.Bool.{false≢true}
use Rattle.std.proofs.lemmas.Option.{none-some, same_Some, slice_get-map, slice_get_within}
use Rattle.pst_expr.specs.declared.ranges.Span.{Span}
use Rattle.pst_model.specs.declared.object.ObjectKind.TheVariants.{State}
use Rattle.pst_model.specs.ConstraintTree.{SlotTree}
use Rattle.pst_model.specs.SoundSlots.{IsOfKind, HasField, IsActionSlot}
use Rattle.pst_ast.specs.declared.scope_declaration.Declaration.{Declaration}
use Rattle.pst_ast.specs.declared.scope_declaration.Sort.{Sort}
use Rattle.pst_ast.specs.declared.scope_declaration.Sort.TheVariants as sort
use Rattle.pst_ast.specs.Sorts.{is_action, is_object, is_field, is_reference, is_claim, is_handle, same_place}
use Rattle.pst_ast.specs.Lookups.{if_sort, home, type_named, type_in, is_type_for, type_of}
use Rattle.pst_type_rules.specs.Members.{those_that}
use Rattle.pst_tree.specs.Bases.{fields_of, references_of, claims_of, number_in, reference_number, claim_number, action_number, object_number}
use Rattle.pst_tree.proofs.Declared.{type_there}
use Rattle.pst_terms.specs.Sources.{Sources, declared_in}
use Rattle.pst_terms.specs.Fields.{count_of, field_number_in, field_number}
use Rattle.pst_elab_rules.specs.Types.{object_of, reference, claim, model_fields, model_object, model_objects, model_action, model_actions}
use Rattle.pst_sound_model.specs.Blocks.{with_field}
use Rattle.pst_sound_model.proofs.Members.{In, in_get, to_filter}
use Rattle.pst_sound_model.proofs.Owned.{not_first, numbered, those_declared, member_declared}
use Rattle.pst_sound_model.proofs.FieldRows.{within_model}
use Rattle.pst_sound_model.proofs.Facts.{AreFacts, own_place}
use Rattle.pst_sound_model.proofs.ObjectReadings.{kind_state}
use Rattle.pst_sound_model.proofs.ActionReadings.{IsOwnRow, OfField, OfReference, OfFirst, OfClaim, OfClaimField}

-- ---- numbers in longer lists

number_longer_by : (b : Bool) (n m : ℕ) → (b ≡ false → n ≡ m) → cond (not b) (1 + n) 0 ≡ cond (not b) (1 + m) 0
number_longer_by true n m e = refl
number_longer_by false n m e = ap (λ (k : ℕ). 1 + k) (e refl)

pub number_longer : (xs ys : List Declaration) (d : Declaration) → In d xs → number_in (xs ++ ys) d ≡ number_in xs d
number_longer [] ys d there = absurd there
number_longer (m ∷ more) ys d there = number_longer_by (same_place m.name.place d.name.place) (number_in (more ++ ys) d) (number_in more d) (λ other. number_longer more ys d (not_first m d more there other))

field_longer_by : (b : Bool) (c n m : ℕ) → (b ≡ false → n ≡ m) → (if b then 0 else c + n) ≡ (if b then 0 else c + m)
field_longer_by true c n m e = refl
field_longer_by false c n m e = ap (λ (k : ℕ). c + k) (e refl)

pub field_longer : (s : Sources) (xs ys : List Declaration) (d : Declaration) → In d xs → field_number_in s (xs ++ ys) d ≡ field_number_in s xs d
field_longer s [] ys d there = absurd there
field_longer s (m ∷ more) ys d there =
    field_longer_by (same_place m.name.place d.name.place) (count_of s m) (field_number_in s (more ++ ys) d) (field_number_in s more d) (λ other. field_longer s more ys d (not_first m d more there other))

-- ---- types of members

if_by : (t : Bool) (x b : Declaration) → (if t then Some x else None) ≡ Some b → (t ≡ true) × (x ≡ b)
if_by true x b e = (refl, same_Some x b e)
if_by false x b e = absurd (none-some b e)

pub type_is_for : (ds : List Declaration) (d t : Declaration) → type_of ds d ≡ Some t → is_type_for d.sort t.sort ≡ true
unfolding type_of
type_is_for ds d t e = by (option_and_then (type_named ds (home ds d)) (type_in d.sort)) e
  where
    by : (o : Option Declaration) → option_and_then (if_sort (is_type_for d.sort)) o ≡ Some t → is_type_for d.sort t.sort ≡ true
    by None e = absurd (none-some t e)
    by (Some x) e = let r = if_by (is_type_for d.sort x.sort) x t e in subst (λ (y : Declaration). is_type_for d.sort y.sort ≡ true) r.1 r.0

pub type_declared : (ds : List Declaration) (d t : Declaration) → type_of ds d ≡ Some t → In t ds
type_declared ds d t e = let k = type_there ds d t e in in_get ds k.0 t k.1

reference_to : (so other : Sort) → is_reference so ≡ true → is_type_for so other ≡ is_object other
reference_to sort.Component other e = absurd (false≢true e)
reference_to (sort.Action base) other e = absurd (false≢true e)
reference_to (sort.Object word) other e = absurd (false≢true e)
reference_to sort.Enumeration other e = absurd (false≢true e)
reference_to sort.Function other e = absurd (false≢true e)
reference_to (sort.Instance of) other e = absurd (false≢true e)
reference_to (sort.Pool of) other e = absurd (false≢true e)
reference_to (sort.Item level) other e = absurd (false≢true e)
reference_to (sort.Field array) other e = absurd (false≢true e)
reference_to (sort.Reference of output) other e = refl
reference_to (sort.Claim of) other e = absurd (false≢true e)
reference_to (sort.Handle of) other e = absurd (false≢true e)
reference_to sort.Constraint other e = absurd (false≢true e)
reference_to sort.Parameter other e = absurd (false≢true e)
reference_to sort.Local other e = absurd (false≢true e)
reference_to sort.Index other e = absurd (false≢true e)

claim_to : (so other : Sort) → is_claim so ≡ true → is_type_for so other ≡ is_object other
claim_to sort.Component other e = absurd (false≢true e)
claim_to (sort.Action base) other e = absurd (false≢true e)
claim_to (sort.Object word) other e = absurd (false≢true e)
claim_to sort.Enumeration other e = absurd (false≢true e)
claim_to sort.Function other e = absurd (false≢true e)
claim_to (sort.Instance of) other e = absurd (false≢true e)
claim_to (sort.Pool of) other e = absurd (false≢true e)
claim_to (sort.Item level) other e = absurd (false≢true e)
claim_to (sort.Field array) other e = absurd (false≢true e)
claim_to (sort.Reference of output) other e = absurd (false≢true e)
claim_to (sort.Claim of) other e = refl
claim_to (sort.Handle of) other e = absurd (false≢true e)
claim_to sort.Constraint other e = absurd (false≢true e)
claim_to sort.Parameter other e = absurd (false≢true e)
claim_to sort.Local other e = absurd (false≢true e)
claim_to sort.Index other e = absurd (false≢true e)

pub handle_to : (so other : Sort) → is_handle so ≡ true → is_type_for so other ≡ is_action other
handle_to sort.Component other e = absurd (false≢true e)
handle_to (sort.Action base) other e = absurd (false≢true e)
handle_to (sort.Object word) other e = absurd (false≢true e)
handle_to sort.Enumeration other e = absurd (false≢true e)
handle_to sort.Function other e = absurd (false≢true e)
handle_to (sort.Instance of) other e = absurd (false≢true e)
handle_to (sort.Pool of) other e = absurd (false≢true e)
handle_to (sort.Item level) other e = absurd (false≢true e)
handle_to (sort.Field array) other e = absurd (false≢true e)
handle_to (sort.Reference of output) other e = absurd (false≢true e)
handle_to (sort.Claim of) other e = absurd (false≢true e)
handle_to (sort.Handle of) other e = refl
handle_to sort.Constraint other e = absurd (false≢true e)
handle_to sort.Parameter other e = absurd (false≢true e)
handle_to sort.Local other e = absurd (false≢true e)
handle_to sort.Index other e = absurd (false≢true e)

pub some_and : {A : Type 0} (o : Option A) (x : A) (P : A → Type 0) → o ≡ Some x → P x → IsSomeAnd o P
some_and o x P e p = subst (λ y. IsSomeAnd y P) (sym e) p

-- where an entry of a list becomes one of the model
pub got_map : {A B : Type 0} (f : A → B) (xs : List A) (k : ℕ) (x : A) → slice_get xs k ≡ Some x → slice_get (map f xs) k ≡ Some (f x)
got_map f xs k x e = slice_get-map f xs k ∙ ap (option_map f) e

module _ (s : Sources) (facts : AreFacts s) (domains : List (List Span)) where
  abbrev ds : List Declaration
  ds = declared_in s

  -- ---- object types and action types by their numbers

  pub object_numbered : (t : Declaration) → In t ds → is_object t.sort ≡ true → slice_get (model_objects s domains) (object_number ds t) ≡ Some (model_object s domains t)
  object_numbered t there is =
      got_map (model_object s domains) (those_that is_object ds) (object_number ds t) t
      (numbered (those_that is_object ds) t (to_filter (λ x. is_object x.sort) ds t there is) (λ e h same. facts.places t e there (among e h) same))
    where
      among : (e : Declaration) → In e (those_that is_object ds) → In e ds
      among e h = (those_declared is_object ds e h).0

  pub action_numbered : (t : Declaration) → In t ds → is_action t.sort ≡ true → slice_get (model_actions s domains) (action_number ds t) ≡ Some (model_action s domains t)
  action_numbered t there is =
      got_map (model_action s domains) (those_that is_action ds) (action_number ds t) t
      (numbered (those_that is_action ds) t (to_filter (λ x. is_action x.sort) ds t there is) (λ e h same. facts.places t e there (among e h) same))
    where
      among : (e : Declaration) → In e (those_that is_action ds) → In e ds
      among e h = (those_declared is_action ds e h).0

  pub object_of_typed : (r t : Declaration) → type_of ds r ≡ Some t → object_of ds r ≡ object_number ds t
  object_of_typed r t e = ap (λ (o : Option Declaration). option_map_or (object_number ds) o 0) e

  pub has_field_of : (r t d : Declaration) (f n k : ℕ) → type_of ds r ≡ Some t → is_object t.sort ≡ true → In d (fields_of ds t) → f ≡ field_number s t d → n ≡ count_of s d → k < n → HasField (model_objects s domains) (object_of ds r) (f + k)
  has_field_of r t d f n k typed is there a b less =
      let w = within_model s domains t d there (own_place s facts is_field t d there) in
      some_and (slice_get (model_objects s domains) (object_of ds r)) (model_object s domains t) (λ type. f + k < length type.fields)
      (ap (slice_get (model_objects s domains)) (object_of_typed r t typed) ∙ object_numbered t (type_declared ds r t typed) is) (omega (arith, a, b, less, w))

  module _ (owner : Declaration) where
    pub reference_numbered : (r : Declaration) → In r (references_of ds owner) → slice_get (map (reference ds) (references_of ds owner)) (reference_number ds owner r) ≡ Some (reference ds r)
    reference_numbered r there = got_map (reference ds) (references_of ds owner) (reference_number ds owner r) r (numbered (references_of ds owner) r there (own_place s facts is_reference owner r there))

    pub claim_numbered : (c : Declaration) → In c (claims_of ds owner) → slice_get (map (claim s.units ds) (claims_of ds owner)) (claim_number ds owner c) ≡ Some (claim s.units ds c)
    claim_numbered c there = got_map (claim s.units ds) (claims_of ds owner) (claim_number ds owner c) c (numbered (claims_of ds owner) c there (own_place s facts is_claim owner c there))

    reference_type : (r t : Declaration) → In r (references_of ds owner) → type_of ds r ≡ Some t → is_object t.sort ≡ true
    reference_type r t there e = sym (reference_to r.sort t.sort (member_declared is_reference ds owner r there).1) ∙ type_is_for ds r t e

    claim_type : (c t : Declaration) → In c (claims_of ds owner) → type_of ds c ≡ Some t → is_object t.sort ≡ true
    claim_type c t there e = sym (claim_to c.sort t.sort (member_declared is_claim ds owner c there).1) ∙ type_is_for ds c t e

    abbrev At : SlotTree → ℕ → Type 0
    At slot n = IsActionSlot (model_objects s domains) (model_action s domains owner) (with_field slot n)

    pub own_slot : (slot : SlotTree) (f n k : ℕ) → IsOwnRow s owner slot f n → k < n → At slot (f + k)
    own_slot slot f n k (OfField d there e a b) less =
        let w = within_model s domains owner d there (own_place s facts is_field owner d there) in
        let inside : f + k < length (model_fields s domains owner) = omega (arith, a, b, less, w) in subst (λ (x : SlotTree). At x (f + k)) (sym e) inside
    own_slot slot f n k (OfReference r t d there typed inside e a b) less =
        subst (λ (x : SlotTree). At x (f + k)) (sym e)
        (some_and (slice_get (map (reference ds) (references_of ds owner)) (reference_number ds owner r)) (reference ds r) (λ x. HasField (model_objects s domains) x.object (f + k)) (reference_numbered r there)
        (has_field_of r t d f n k typed (reference_type r t there typed) inside a b less))
    own_slot slot f n k (OfFirst r t there typed is e a b) less =
        subst (λ (x : SlotTree). At x (f + k)) (sym e)
        (some_and (slice_get (map (reference ds) (references_of ds owner)) (reference_number ds owner r)) (reference ds r) (λ x. IsOfKind (model_objects s domains) State x.object) (reference_numbered r there)
        (some_and (slice_get (model_objects s domains) (object_of ds r)) (model_object s domains t) (λ type. type.kind ≡ State)
        (ap (slice_get (model_objects s domains)) (object_of_typed r t typed) ∙ object_numbered t (type_declared ds r t typed) (reference_type r t there typed)) (kind_state s t t.sort is)))
    own_slot slot f n k (OfClaim c there e a b) less =
        subst (λ (x : SlotTree). At x (f + k)) (sym e) (slice_get_within (map (claim s.units ds) (claims_of ds owner)) (claim_number ds owner c) (claim s.units ds c) (claim_numbered c there))
    own_slot slot f n k (OfClaimField c t d there typed inside e a b) less =
        subst (λ (x : SlotTree). At x (f + k)) (sym e)
        (some_and (slice_get (map (claim s.units ds) (claims_of ds owner)) (claim_number ds owner c)) (claim s.units ds c) (λ x. HasField (model_objects s domains) x.object (f + k)) (claim_numbered c there)
        (has_field_of c t d f n k typed (claim_type c t there typed) inside a b less))
