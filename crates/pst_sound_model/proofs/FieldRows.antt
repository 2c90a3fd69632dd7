-- The fields of types by number: two of one type are the same, or have no number in common.
use Rattle.std.proofs.Common.{◌≡◌, ◌⊎◌, ◌≤◌, inl, inr, refl, sym, ap, arith, ◌∙◌}
use Rattle.std.specs.Prelude.{ℕ, zero, suc, ◌+◌, Bool, true, false, List, [], ◌∷◌, map, length, Option, Some, None, if◌then◌else◌}
use Rattle.std.specs.List.{flat_map}
use Rattle.std.proofs.lemmas.List.{length-append}
use Rattle.pst_ast.specs.declared.leaf.Name.{Name}
use Rattle.pst_expr.specs.declared.ranges.Span.{Span}
use Rattle.pst_model.specs.ConstraintTree.{SlotTree}
use Rattle.pst_ast.specs.declared.scope_declaration.Declaration.{Declaration}
use Rattle.pst_ast.specs.Sorts.{same_place}
use Rattle.pst_type_rules.specs.Sites.{fields}
use Rattle.pst_tree.specs.Bases.{fields_of}
use Rattle.pst_terms.specs.Sources.{Sources, declared_in}
use Rattle.pst_terms.specs.Fields.{counted, size_of, elements_in, count_of, field_number_in, field_number}
use Rattle.pst_terms.specs.Readings.{slots_from, field_reading}
use Rattle.pst_elab_rules.specs.Spans.{domain_at}
use Rattle.pst_elab_rules.specs.Types.{field, elements_of, model_fields}
use Rattle.pst_sound_model.specs.Blocks.{with_field, IsBlock}
use Rattle.pst_sound_model.specs.Used.{IsGood}
use Rattle.pst_sound_model.proofs.Members.{In}
use Rattle.pst_sound_model.proofs.Owned.{HasOwnPlace, not_first}

module _ (s : Sources) where
  -- as how many fields several count
  abbrev pub count_all : List Declaration → ℕ
  count_all [] = 0
  count_all (m ∷ more) = count_of s m + count_all more

  abbrev Away : ℕ → ℕ → ℕ → ℕ → Type 0
  Away f n g m = ((f ≡ g) × (n ≡ m)) ⊎ ((f + n ≤ g) ⊎ (g + m ≤ f))

  reach_by : (b : Bool) (m d : Declaration) (more : List Declaration) → same_place m.name.place d.name.place ≡ b → (same_place m.name.place d.name.place ≡ true → m ≡ d) → (same_place m.name.place d.name.place ≡ false → field_number_in s more d + count_of s d ≤ count_all more)
      → (if b then 0 else count_of s m + field_number_in s more d) + count_of s d ≤ count_of s m + count_all more
  reach_by true m d more e is on = let same : count_of s m ≡ count_of s d = ap (count_of s) (is e) in omega (arith, same)
  reach_by false m d more e is on = omega (arith, on e)

  pub reaches : (list : List Declaration) (d : Declaration) → In d list → HasOwnPlace list d → field_number_in s list d + count_of s d ≤ count_all list
  reaches [] d there own = absurd there
  reaches (m ∷ more) d there own = reach_by (same_place m.name.place d.name.place) m d more refl (own m (inl refl)) (λ other. reaches more d (not_first m d more there other) (λ e h. own e (inr h)))

  shifted : (c f n g m : ℕ) → Away f n g m → Away (c + f) n (c + g) m
  shifted c f n g m (inl e) = inl (omega (arith, e.0), e.1)
  shifted c f n g m (inr (inl h)) = inr (inl (omega (arith, h)))
  shifted c f n g m (inr (inr h)) = inr (inr (omega (arith, h)))

  apart_by : (b c : Bool) (m d e : Declaration) (more : List Declaration) → same_place m.name.place d.name.place ≡ b → same_place m.name.place e.name.place ≡ c
      → (same_place m.name.place d.name.place ≡ true → m ≡ d) → (same_place m.name.place e.name.place ≡ true → m ≡ e)
      → (same_place m.name.place d.name.place ≡ false → same_place m.name.place e.name.place ≡ false → Away (field_number_in s more d) (count_of s d) (field_number_in s more e) (count_of s e))
      → Away (if b then 0 else count_of s m + field_number_in s more d) (count_of s d) (if c then 0 else count_of s m + field_number_in s more e) (count_of s e)
  apart_by true true m d e more x y is also on = inl (refl, ap (count_of s) (sym (is x) ∙ also y))
  apart_by true false m d e more x y is also on = let same : count_of s m ≡ count_of s d = ap (count_of s) (is x) in inr (inl (omega (arith, same)))
  apart_by false true m d e more x y is also on = let same : count_of s m ≡ count_of s e = ap (count_of s) (also y) in inr (inr (omega (arith, same)))
  apart_by false false m d e more x y is also on = shifted (count_of s m) (field_number_in s more d) (count_of s d) (field_number_in s more e) (count_of s e) (on x y)

  pub fields_apart : (list : List Declaration) (d e : Declaration) → In d list → In e list → HasOwnPlace list d → HasOwnPlace list e → Away (field_number_in s list d) (count_of s d) (field_number_in s list e) (count_of s e)
  fields_apart [] d e there too own also = absurd there
  fields_apart (m ∷ more) d e there too own also =
      apart_by (same_place m.name.place d.name.place) (same_place m.name.place e.name.place) m d e more refl refl (own m (inl refl)) (also m (inl refl))
      (λ x y. fields_apart more d e (not_first m d more there x) (not_first m e more too y) (λ z h. own z (inr h)) (λ z h. also z (inr h)))

  -- ---- in a model

  length_elements : (name : Name) (domain : List Span) (f : ℕ → Option ℕ) (first n : ℕ) → length (map (λ i. field name domain (f i)) (counted first n)) ≡ n
  length_elements name domain f first zero = refl
  length_elements name domain f first (suc n) = ap suc (length_elements name domain f (first + 1) n)

  as_many : (name : Name) (domain : List Span) (size : Option ℕ) → length (elements_of name domain size) ≡ elements_in size
  as_many name domain None = refl
  as_many name domain (Some n) = length_elements name domain (λ i. Some i) 0 n

  length_all : (domains : List (List Span)) (list : List Declaration) → length (flat_map (λ d. elements_of d.name (domain_at (fields s.units) domains d.name.place) (size_of s d)) list) ≡ count_all list
  length_all domains [] = refl
  length_all domains (d ∷ more) =
      let here : length (elements_of d.name (domain_at (fields s.units) domains d.name.place) (size_of s d)) ≡ count_of s d = as_many d.name (domain_at (fields s.units) domains d.name.place) (size_of s d) in
      let behind = length_all domains more in
      length-append (elements_of d.name (domain_at (fields s.units) domains d.name.place) (size_of s d)) (flat_map (λ d. elements_of d.name (domain_at (fields s.units) domains d.name.place) (size_of s d)) more) ∙ (λ i. here i + behind i)

  pub model_length : (domains : List (List Span)) (type : Declaration) → length (model_fields s domains type) ≡ count_all (fields_of (declared_in s) type)
  model_length domains type = length_all domains (fields_of (declared_in s) type)

  pub within_model : (domains : List (List Span)) (type d : Declaration) → In d (fields_of (declared_in s) type) → HasOwnPlace (fields_of (declared_in s) type) d → field_number s type d + count_of s d ≤ length (model_fields s domains type)
  within_model domains type d there own = let same = model_length domains type in let less = reaches (fields_of (declared_in s) type) d there own in omega (arith, same, less)

  -- ---- readings

  module _ (IsRow : SlotTree → ℕ → ℕ → Type 0) where
    good_by : (key : SlotTree) (first : ℕ) (size : Option ℕ) → IsRow key first (elements_in size) → IsGood IsRow (slots_from (with_field key) first size)
    good_by key first None row = record { slot = key; first = first; count = 1; row = row; is = refl }
    good_by key first (Some n) row = record { slot = key; first = first; count = n; row = row; is = refl }

    pub good_field : (key : SlotTree) (type d : Declaration) → IsRow key (field_number s type d) (count_of s d) → IsGood IsRow (field_reading s (with_field key) type d)
    good_field key type d row = good_by key (field_number s type d) (size_of s d) row

    pub good_thing : (slot : SlotTree) → with_field slot 0 ≡ slot → IsRow slot 0 1 → IsBlock IsRow (slot ∷ [])
    good_thing slot e row = record { slot = slot; first = 0; count = 1; row = row; is = λ i. sym e i ∷ [] }
