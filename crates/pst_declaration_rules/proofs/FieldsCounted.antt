-- The fields that declarations add, as they are counted.
use Rattle.std.proofs.Common.{◌≡◌, ⊎_elim, ℕ, ◌+◌, ◌≤◌, Bool, true, false, ◌&&◌, nat_le, cond, List, [], ◌∷◌, map, length, Option, refl, sym, ap, subst, ◌∙◌, arith, true≢false}
use Rattle.std.specs.Prelude.{ℤ, pos, negsuc, Some, None, if◌then◌else◌}
use Rattle.std.specs.Option.{option_map}
use Rattle.std.proofs.lemmas.Bool.{leb-true}
use Rattle.pst_ast.specs.ExpressionTree.{ExprTree}
use Rattle.pst_model.specs.Limits.{most_elements, most_fields}
use Rattle.pst_ast.specs.declared.scope_declaration.Declaration.{Declaration}
use Rattle.pst_ast.specs.declared.environment.Environment.{Environment}
use Rattle.pst_ast.specs.Sorts.{is_field}
use Rattle.pst_type_rules.specs.Constants.{IsConstant}
use Rattle.pst_type_rules.specs.Limits.{AddsFields, One, Array, WrongArray, AddTogether, Nothing, More}
use Rattle.pst_type_rules.specs.Members.{those_that}
use Rattle.pst_type_rules.specs.Sites.{DeclaredField, field_at}
use Rattle.pst_evaluate.specs.Kept.{constant_by, known_in}
use Rattle.pst_evaluate.specs.Laws.{ConstantsAreFound}
use Rattle.pst_declaration_rules.specs.declared.counted.Kind.TheVariants.{Field}
use Rattle.pst_declaration_rules.specs.declared.sources.TypeSources.{TypeSources}
use Rattle.pst_declaration_rules.specs.Counted.{plus, total}
use Rattle.pst_declaration_rules.specs.Fields.{elements, fields_by, fields_of}
use Rattle.pst_declaration_rules.specs.Tallied.{AreKnown, adding, units_of}
use Rattle.pst_declaration_rules.proofs.Overrun.{and_both, few_or, le_is, none_total, plus_is, stuck}
use Rattle.pst_declaration_rules.proofs.Tallying.{none_is_some, some_is}

module _ (k : TypeSources) (known : AreKnown k) (law : ConstantsAreFound) where
  abbrev value_at : Environment → ExprTree → Option ℤ
  value_at at size = constant_by k.index.now k.names.now (known_in k.values.now) at size

  constant_so : (at : Environment) (size : ExprTree) (v : ℤ) → (value_at at size ≡ Some v → IsConstant (units_of k) k.names.now at size v) × (IsConstant (units_of k) k.names.now at size v → value_at at size ≡ Some v)
  constant_so at size v =
      subst (λ (ds : List Declaration). (constant_by ds k.names.now (known_in k.values.now) at size ≡ Some v → IsConstant (units_of k) k.names.now at size v)
      × (IsConstant (units_of k) k.names.now at size v → constant_by ds k.names.now (known_in k.values.now) at size ≡ Some v)) (sym known.declared)
      (law (units_of k) k.names.now (known_in k.values.now) at size v known.values)

  abbrev inside : ℕ → Bool
  inside n = nat_le 1 n && nat_le n most_elements

  abbrev Adds : Declaration → ℕ → Type 0
  Adds d n = AddsFields (units_of k) k.names.now d n

  wrong : (d : Declaration) (f : DeclaredField) (size : ExprTree) → field_at (units_of k) d.name.place ≡ Some f → f.size ≡ Some size → ((n : ℕ) → value_at f.at size ≡ Some (pos n) → 1 ≤ n → n ≤ most_elements → ⊥) → Adds d 0
  wrong d f size at is none = WrongArray d f size at is (λ n has low high. none n ((constant_so f.at size (pos n)).1 has) low high)

  pos_is : (m n : ℕ) → Some (pos m) ≡ Some (pos n) → m ≡ n
  pos_is m n e = ap number (some_is (pos m) (pos n) e)
    where
      number : ℤ → ℕ
      number (pos n) = n
      number (negsuc n) = n

  within_by : (d : Declaration) (f : DeclaredField) (size : ExprTree) (n : ℕ) (b : Bool) → field_at (units_of k) d.name.place ≡ Some f → f.size ≡ Some size → value_at f.at size ≡ Some (pos n) → inside n ≡ b
      → Adds d (if b then n else 0)
  within_by d f size n true at is value b = let both = and_both (nat_le 1 n) (nat_le n most_elements) b in
      Array d f size n at is ((constant_so f.at size (pos n)).0 value) (leb-true 1 n both.0) (leb-true n most_elements both.1)
  within_by d f size n false at is value b =
      wrong d f size at is (λ m other low high.
      let same = pos_is n m (sym value ∙ other) in
      true≢false (sym (both_are (nat_le 1 n) (nat_le n most_elements) (le_is 1 n (omega (arith, same, low))) (le_is n most_elements (omega (arith, same, high)))) ∙ b))
    where
      both_are : (x y : Bool) → x ≡ true → y ≡ true → (x && y) ≡ true
      both_are true y p q = q
      both_are false y p q = absurd (true≢false (sym p))

  array_by : (d : Declaration) (f : DeclaredField) (size : ExprTree) (o : Option ℤ) → field_at (units_of k) d.name.place ≡ Some f → f.size ≡ Some size → value_at f.at size ≡ o → Adds d (elements o)
  array_by d f size None at is value = wrong d f size at is (λ m other low high. none_is_some (pos m) (sym value ∙ other))
  array_by d f size (Some (pos n)) at is value = within_by d f size n (inside n) at is value refl
  array_by d f size (Some (negsuc n)) at is value = wrong d f size at is (λ m other low high. not_pos (some_is (negsuc n) (pos m) (sym value ∙ other)))
    where
      is_pos : ℤ → Bool
      is_pos (pos i) = true
      is_pos (negsuc i) = false

      not_pos : {i j : ℕ} → negsuc i ≡ pos j → ⊥
      not_pos e = true≢false (sym (ap is_pos e))

  size_by : (d : Declaration) (f : DeclaredField) (size : Option ExprTree) → field_at (units_of k) d.name.place ≡ Some f → f.size ≡ size → Adds d (fields_by k.index.now k.names.now (known_in k.values.now) f.at size)
  size_by d f None at is = One d f at is
  size_by d f (Some size) at is = array_by d f size (value_at f.at size) at is refl

  adds_by : (d : Declaration) (n : ℕ) (o : Option DeclaredField) → field_at (units_of k) d.name.place ≡ o → option_map (fields_of k.index.now k.names.now (known_in k.values.now)) o ≡ Some n → Adds d n
  adds_by d n None at is = absurd (none_is_some n is)
  adds_by d n (Some f) at is = subst (Adds d) (some_is _ n is) (size_by d f f.size at refl)

  weight_if : (d : Declaration) → is_field d.sort ≡ true → (adding k d).adds ≡ option_map (fields_of k.index.now k.names.now (known_in k.values.now)) (field_at (units_of k) d.name.place)
  weight_if d is = ap (λ (b : Bool). if b then option_map (fields_of k.index.now k.names.now (known_in k.values.now)) (field_at (units_of k) d.name.place) else Some 0) is

  pub weight_none : (d : Declaration) → is_field d.sort ≡ false → (adding k d).adds ≡ Some 0
  weight_none d is = ap (λ (b : Bool). if b then option_map (fields_of k.index.now k.names.now (known_in k.values.now)) (field_at (units_of k) d.name.place) else Some 0) is

  pub adds_to : (d : Declaration) (n : ℕ) → is_field d.sort ≡ true → (adding k d).adds ≡ Some n → Adds d n
  adds_to d n is e = adds_by d n (field_at (units_of k) d.name.place) refl (sym (weight_if d is) ∙ e)

  -- ---- back

  counted_as : (d : Declaration) (f : DeclaredField) (size : Option ExprTree) → field_at (units_of k) d.name.place ≡ Some f → f.size ≡ size
      → option_map (fields_of k.index.now k.names.now (known_in k.values.now)) (field_at (units_of k) d.name.place) ≡ Some (fields_by k.index.now k.names.now (known_in k.values.now) f.at size)
  counted_as d f size at is = ap (option_map (fields_of k.index.now k.names.now (known_in k.values.now))) at ∙ ap (λ (s : Option ExprTree). Some (fields_by k.index.now k.names.now (known_in k.values.now) f.at s)) is

  elements_wrong : (o : Option ℤ) → ((n : ℕ) → o ≡ Some (pos n) → 1 ≤ n → n ≤ most_elements → ⊥) → elements o ≡ 0
  elements_wrong None none = refl
  elements_wrong (Some (negsuc n)) none = refl
  elements_wrong (Some (pos n)) none = by (nat_le 1 n) (nat_le n most_elements) refl refl
    where
      by : (x y : Bool) → nat_le 1 n ≡ x → nat_le n most_elements ≡ y → (if x && y then n else 0) ≡ 0
      by true true p q = absurd (none n refl (leb-true 1 n p) (leb-true n most_elements q))
      by true false p q = refl
      by false y p q = refl

  pub adds_from : (d : Declaration) (n : ℕ) → is_field d.sort ≡ true → Adds d n → (adding k d).adds ≡ Some n
  adds_from _ _ is (One d f at none) = weight_if d is ∙ counted_as d f None at none
  adds_from _ _ is (Array d f size n at sized has low high) =
      weight_if d is ∙ (counted_as d f (Some size) at sized
      ∙ ap Some (ap elements ((constant_so f.at size (pos n)).1 has)
      ∙ ap (λ (b : Bool). if b then n else 0) (ap (λ (b : Bool). b && nat_le n most_elements) (le_is 1 n low) ∙ le_is n most_elements high)))
  adds_from _ _ is (WrongArray d f size at sized none) =
      weight_if d is ∙ (counted_as d f (Some size) at sized
      ∙ ap Some (elements_wrong (value_at f.at size) (λ n value low high. none n ((constant_so f.at size (pos n)).0 value) low high)))

  -- ---- several

  abbrev Together : List Declaration → ℕ → Type 0
  Together ds n = AddTogether (units_of k) k.names.now ds n

  record IsTogether (n s : ℕ) (ds : List Declaration) : Type 0 where
    rest : ℕ
    together : Together ds rest
    sum : s ≡ n + rest

  behind_by : (n : ℕ) (d : Declaration) (ds : List Declaration) (s : ℕ) (b : Bool) → is_field d.sort ≡ b → n ≤ most_fields
      → ((m : ℕ) → total Field (Some m) (map (adding k) ds) ≡ Some s → IsTogether m s (those_that is_field ds))
      → (o : Option ℕ) → (adding k d).adds ≡ o → total Field (plus most_fields (Some n) o) (map (adding k) ds) ≡ Some s → IsTogether n s (cond b (d ∷ those_that is_field ds) (those_that is_field ds))
  behind_by n d ds s b is few rest None adds e = absurd (none_is_some s (sym (none_total Field (map (adding k) ds)) ∙ e))
  behind_by n d ds s true is few rest (Some a) adds e =
      let r = rest (n + a) (ap (λ (o : Option ℕ). total Field o (map (adding k) ds)) (sym (plus_is most_fields n a few)) ∙ e) in
      record { rest = a + r.rest; together = More d (those_that is_field ds) a r.rest (adds_to d a is adds) r.together; sum = omega (arith, r.sum) }
  behind_by n d ds s false is few rest (Some a) adds e =
      let none : a ≡ 0 = some_is a 0 (sym adds ∙ weight_none d is) in
      let r = rest (n + a) (ap (λ (o : Option ℕ). total Field o (map (adding k) ds)) (sym (plus_is most_fields n a few)) ∙ e) in
      record { rest = r.rest; together = r.together; sum = omega (arith, r.sum, none) }

  together_to : (n : ℕ) (ds : List Declaration) (s : ℕ) → s ≤ most_fields → total Field (Some n) (map (adding k) ds) ≡ Some s → IsTogether n s (those_that is_field ds)
  together_to n [] s few e = record { rest = 0; together = Nothing; sum = omega (arith, some_is n s e) }
  together_to n (d ∷ ds) s few e = ⊎_elim
      (λ h. behind_by n d ds s (is_field d.sort) refl h (λ m more. together_to m ds s few more) (adding k d).adds refl e)
      (λ h. absurd (omega (arith, stuck Field n s (adding k d ∷ map (adding k) ds) h e, h, few)))
      (few_or n most_fields)

  pub together : (ds : List Declaration) (s : ℕ) → s ≤ most_fields → total Field (Some 0) (map (adding k) ds) ≡ Some s → Together (those_that is_field ds) s
  together ds s few e = let r = together_to 0 ds s few e in subst (Together (those_that is_field ds)) (sym (r.sum ∙ no_more r.rest)) r.together
    where
      no_more : (n : ℕ) → 0 + n ≡ n
      no_more n = omega arith

  -- ---- several, back

  record IsMore (d : Declaration) (ds : List Declaration) (s : ℕ) : Type 0 where
    first : ℕ
    rest : ℕ
    adds : Adds d first
    together_rest : Together ds rest
    sum : s ≡ first + rest

  head_or : Declaration → List Declaration → Declaration
  head_or d [] = d
  head_or d (x ∷ xs) = x

  tail_of : List Declaration → List Declaration
  tail_of [] = []
  tail_of (x ∷ xs) = xs

  more_of : (d : Declaration) (ds all : List Declaration) (s : ℕ) → Together all s → all ≡ d ∷ ds → IsMore d ds s
  unfolding head_or tail_of
  more_of d ds _ _ Nothing e = absurd (omega (arith, ap length e))
  more_of d ds _ _ (More x xs n m adds rest) e = record {
    first = n;
    rest = m;
    adds = subst (λ (y : Declaration). Adds y n) (ap (head_or d) e) adds;
    together_rest = subst (λ (ys : List Declaration). Together ys m) (ap tail_of e) rest;
    sum = refl;
  }

  none_of : (all : List Declaration) (s : ℕ) → Together all s → all ≡ [] → s ≡ 0
  none_of _ _ Nothing e = refl
  none_of _ _ (More x xs n m adds rest) e = absurd (omega (arith, ap length e))

  from_by : (n : ℕ) (d : Declaration) (ds : List Declaration) (s : ℕ) (b : Bool) → is_field d.sort ≡ b → n + s ≤ most_fields
      → ((m r : ℕ) → Together (those_that is_field ds) r → m + r ≤ most_fields → total Field (Some m) (map (adding k) ds) ≡ Some (m + r))
      → Together (cond b (d ∷ those_that is_field ds) (those_that is_field ds)) s → total Field (plus most_fields (Some n) (adding k d).adds) (map (adding k) ds) ≡ Some (n + s)
  from_by n d ds s true is few rest all =
      let r = more_of d (those_that is_field ds) (d ∷ those_that is_field ds) s all refl in
      let same : (n + r.first) + r.rest ≡ n + s = omega (arith, r.sum) in
      ap (λ (o : Option ℕ). total Field o (map (adding k) ds)) (ap (λ (w : Option ℕ). plus most_fields (Some n) w) (adds_from d r.first is r.adds) ∙ plus_is most_fields n r.first (omega (arith, few)))
      ∙ (rest (n + r.first) r.rest r.together_rest (omega (arith, same, few)) ∙ ap Some same)
  from_by n d ds s false is few rest all =
      let same : (n + 0) + s ≡ n + s = omega arith in
      ap (λ (o : Option ℕ). total Field o (map (adding k) ds)) (ap (λ (w : Option ℕ). plus most_fields (Some n) w) (weight_none d is) ∙ plus_is most_fields n 0 (omega (arith, few)))
      ∙ (rest (n + 0) s all (omega (arith, same, few)) ∙ ap Some same)

  together_from : (n : ℕ) (ds : List Declaration) (s : ℕ) → Together (those_that is_field ds) s → n + s ≤ most_fields → total Field (Some n) (map (adding k) ds) ≡ Some (n + s)
  together_from n [] s all few = ap Some (omega (arith, none_of [] s all refl))
  together_from n (d ∷ ds) s all few = from_by n d ds s (is_field d.sort) refl few (λ m r more small. together_from m ds r more small) all

  pub apart : (ds : List Declaration) (s : ℕ) → Together (those_that is_field ds) s → s ≤ most_fields → total Field (Some 0) (map (adding k) ds) ≡ Some s
  apart ds s all few = together_from 0 ds s all (omega (arith, few)) ∙ ap Some (no_less s)
    where
      no_less : (n : ℕ) → 0 + n ≡ n
      no_less n = omega arith
