-- Enum types without values.
use Rattle.std.proofs.Common.{◌≡◌, ◌↔◌, ⊎_elim, ℕ, zero, suc, ℤ, Bool, true, false, nat_eq, List, [], ◌∷◌, ◌++◌, map, length, Option, arith, refl, sym, ap, subst, ◌∙◌, true≢false}
use Rattle.std.specs.Prelude.{int_le, Some, None, is_some, if◌then◌else◌}
use Rattle.std.specs.List.{list_any, find, Contains}
use Rattle.std.specs.Option.{option_and_then, option_map, option_to_list}
use Rattle.std.proofs.lemmas.Bool.{and_from, and_parts, eqb-true, or_cases, or_left, or_right}
use Rattle.std.proofs.lemmas.List.Folds.{list_any-append}
use Rattle.pst_base.specs.declared.position.Place.{Place}
use Rattle.pst_ast.specs.declared.shared.TypeName.{TypeName}
use Rattle.pst_ast.specs.ExpressionTree.{ExprTree}
use Rattle.pst_ast.specs.SharedTree.{DomainTree, MakeDomain, TypeNamed}
use Rattle.pst_ast.specs.DeclarationTree.{UnitTree}
use Rattle.pst_expr.specs.declared.ranges.Span.{Span}
use Rattle.pst_expr.specs.Spans.{IsInSpan}
use Rattle.pst_ast.specs.declared.scope_declaration.Declaration.{Declaration}
use Rattle.pst_ast.specs.declared.environment.Environment.{Environment}
use Rattle.pst_ast.specs.Declarations.{declarations}
use Rattle.pst_ast.specs.Lookups.{type_named}
use Rattle.pst_ast.specs.Sorts.{same_place}
use Rattle.pst_ast.specs.Uses.{HasType}
use Rattle.pst_type_rules.specs.Enums.{DeclaredItem, DeclaredEnum, enums, enum_at}
use Rattle.pst_type_rules.specs.Constants.{IsConstant, IsItemValue}
use Rattle.pst_type_rules.specs.Domains.{ranges_behind, ranges_of, IsKept, IsEnumNamed, IsInType, OfEnum, IsBaseKnown, Enum, IsKnown}
use Rattle.pst_type_rules.specs.Places.{type_place}
use Rattle.pst_type_rules.specs.TypeRules.{UseBreaks, Empty}
use Rattle.pst_evaluate.specs.Settled.{AreItemValues}
use Rattle.pst_enum_values.specs.Gathered.{EnumPlaces, are_known, enum_places, is_inside, values_of}
use Rattle.pst_enum_values.specs.Kept.{enum_in}
use Rattle.pst_range_rules.specs.Spans.{spans_of}
use Rattle.pst_range_rules.specs.Types.{enum_has, enum_named, is_empty_enum, keeps_nothing}
use Rattle.pst_range_rules.proofs.Emptiness.{all_from, each_of, all_upright, none_kept, nothing_kept}
use Rattle.pst_range_rules.proofs.Fronts.{is_first, is_behind}
use Rattle.pst_range_rules.proofs.Tests.{by_le, le_test, some_is, none_is_some}

abbrev place_of : DeclaredItem → Place
place_of i = i.name.place

-- ---- the values of items

module _ (known : Place → Option ℤ) (test : ℤ → Bool) where
  -- an item with a value that passes the test
  pub record Passing (items : List DeclaredItem) : Type 0 where
    pub item : DeclaredItem
    pub among : Contains items item
    pub number : ℤ
    pub has : known item.name.place ≡ Some number
    pub passes : test number ≡ true

  later : (x : DeclaredItem) (more : List DeclaredItem) → Passing more → Passing (x ∷ more)
  later x more p = record { item = p.item; among = is_behind x p.item more p.among; number = p.number; has = p.has; passes = p.passes }

  from_first : (x : DeclaredItem) (more : List DeclaredItem) (o : Option ℤ) → known x.name.place ≡ o → (list_any test (values_of known (map place_of more)) ≡ true → Passing more)
      → list_any test (option_to_list o ++ values_of known (map place_of more)) ≡ true → Passing (x ∷ more)
  from_first x more None is rest any = later x more (rest any)
  from_first x more (Some v) is rest any =
      ⊎_elim (λ here. record { item = x; among = is_first x more; number = v; has = is; passes = here }) (λ there. later x more (rest there))
      (or_cases (test v) (list_any test (values_of known (map place_of more))) any)

  pub from_values : (items : List DeclaredItem) → list_any test (values_of known (map place_of items)) ≡ true → Passing items
  from_values [] any = absurd (true≢false (sym any))
  from_values (x ∷ more) any = from_first x more (known x.name.place) refl (from_values more) any

  pub to_values : (items : List DeclaredItem) (i : DeclaredItem) (v : ℤ) → Contains items i → known i.name.place ≡ Some v → test v ≡ true → list_any test (values_of known (map place_of items)) ≡ true
  to_values [] i v (n, within, there) has passes = absurd (omega (arith, within))
  to_values (x ∷ more) i v (zero, within, there) has passes =
      let here = subst (λ (j : DeclaredItem). known j.name.place ≡ Some v) (sym there) has in
      ap (λ (o : Option ℤ). list_any test (option_to_list o ++ values_of known (map place_of more))) here ∙ or_left (test v) (list_any test (values_of known (map place_of more))) passes
  to_values (x ∷ more) i v (suc n, within, there) has passes =
      list_any-append test (option_to_list (known x.name.place)) (values_of known (map place_of more))
      ∙ or_right (list_any test (option_to_list (known x.name.place))) (list_any test (values_of known (map place_of more))) (to_values more i v (n, omega (arith, within), there) has passes)

-- a list without items has none that passes a test
no_items : (test : ℤ → Bool) (vs : List ℤ) → nat_eq (length vs) 0 ≡ true → list_any test vs ≡ true → ⊥
no_items test [] e any = true≢false (sym any)
no_items test (v ∷ vs) e any = let zero_long = eqb-true (length (v ∷ vs)) 0 e in omega (arith, zero_long)

empty_list : (vs : List ℤ) → (list_any (λ (v : ℤ). true) vs ≡ true → ⊥) → nat_eq (length vs) 0 ≡ true
empty_list [] none = refl
empty_list (v ∷ vs) none = absurd (none refl)

some_value : (o : Option ℤ) → is_some o ≡ true → (v : ℤ) × (o ≡ Some v)
some_value None e = absurd (true≢false (sym e))
some_value (Some v) e = (v, refl)

-- ---- the enum that a name stands for

place_if : (b : Bool) (e : DeclaredEnum) (o : Option DeclaredEnum) → (if b then Some (enum_places e) else option_map enum_places o) ≡ option_map enum_places (if b then Some e else o)
place_if true e o = refl
place_if false e o = refl

places_found : (all : List DeclaredEnum) (p : Place) → enum_in (map enum_places all) p ≡ option_map enum_places (find (λ (e : DeclaredEnum). same_place e.name.place p) all)
places_found [] p = refl
places_found (e ∷ more) p =
    ap (λ (o : Option EnumPlaces). if same_place e.name.place p then Some (enum_places e) else o) (places_found more p)
    ∙ place_if (same_place e.name.place p) e (find (λ (e : DeclaredEnum). same_place e.name.place p) more)

module _ (units : List UnitTree) where
  places_at : (p : Place) → enum_in (map enum_places (enums units)) p ≡ option_map enum_places (enum_at units p)
  unfolding enum_at
  places_at p = places_found (enums units) p

  abbrev found_enum : Option Declaration → Option EnumPlaces
  found_enum o = option_and_then (λ (d : Declaration). enum_in (map enum_places (enums units)) d.name.place) o

  record Named (component : Option Place) (name : TypeName) (e : EnumPlaces) : Type 0 where
    pub enum : DeclaredEnum
    pub named : IsEnumNamed units component name enum
    pub places : enum_places enum ≡ e

  named_by : (component : Option Place) (name : TypeName) (e : EnumPlaces) (d : Declaration) (o : Option DeclaredEnum) → type_named (declarations units) component name ≡ Some d → enum_at units d.name.place ≡ o
      → option_map enum_places o ≡ Some e → Named component name e
  named_by component name e d None there is same = absurd (none_is_some e same)
  named_by component name e d (Some enum) there is same = record { enum = enum; named = record { declaration = d; named = there; is = is }; places = some_is (enum_places enum) e same }

  named_if : (component : Option Place) (name : TypeName) (e : EnumPlaces) (o : Option Declaration) → type_named (declarations units) component name ≡ o → found_enum o ≡ Some e → Named component name e
  named_if component name e None there is = absurd (none_is_some e is)
  named_if component name e (Some d) there is = named_by component name e d (enum_at units d.name.place) there refl (sym (places_at d.name.place) ∙ is)

  from_named : (component : Option Place) (name : TypeName) (e : EnumPlaces) → enum_named (declarations units) (map enum_places (enums units)) component name ≡ Some e → Named component name e
  from_named component name e is = named_if component name e (type_named (declarations units) component name) refl is

  to_named : (component : Option Place) (name : TypeName) (enum : DeclaredEnum) → IsEnumNamed units component name enum → enum_named (declarations units) (map enum_places (enums units)) component name ≡ Some (enum_places enum)
  to_named component name enum is = ap found_enum is.named ∙ places_at is.declaration.name.place ∙ ap (option_map enum_places) is.is

  same_enum : (component : Option Place) (name : TypeName) (a b : DeclaredEnum) → IsEnumNamed units component name a → IsEnumNamed units component name b → a ≡ b
  same_enum component name a b p q =
      some_is a b (sym p.is ∙ ap (λ (d : Declaration). enum_at units d.name.place) (some_is p.declaration q.declaration (sym p.named ∙ q.named)) ∙ q.is)

-- ---- values of types

-- a value of an enum type
record InEnum (units : List UnitTree) (names : List (List ℕ)) (at : Environment) (name : TypeName) (domain : Option DomainTree) (v : ℤ) : Type 0 where
  enum : DeclaredEnum
  item : DeclaredItem
  named : IsEnumNamed units at.component name enum
  among : Contains enum.items item
  has : IsItemValue units names item.name.place v
  kept : IsKept units names at domain v

in_enum : (units : List UnitTree) (names : List (List ℕ)) (at : Environment) (name : TypeName) (domain : Option DomainTree) (v : ℤ) → IsInType units names at (TypeNamed name domain) v → InEnum units names at name domain v
in_enum units names at _ _ _ (OfEnum name domain e i v named among has kept) = record { enum = e; item = i; named = named; among = among; has = has; kept = kept }

-- an enum whose items are known
record KnownEnum (units : List UnitTree) (names : List (List ℕ)) (at : Environment) (name : TypeName) : Type 0 where
  enum : DeclaredEnum
  named : IsEnumNamed units at.component name enum
  each : (i : DeclaredItem) → Contains enum.items i → (v : ℤ) × IsItemValue units names i.name.place v

known_enum : (units : List UnitTree) (names : List (List ℕ)) (at : Environment) (name : TypeName) (domain : Option DomainTree) → IsBaseKnown units names at (TypeNamed name domain) → KnownEnum units names at name
known_enum units names at _ _ (Enum name domain e named each) = record { enum = e; named = named; each = each }

module _ (units : List UnitTree) (names : List (List ℕ)) (at : Environment) (value : ExprTree → Option ℤ) (are : (expr : ExprTree) (v : ℤ) → (value expr ≡ Some v) ↔ IsConstant units names at expr v) (known : Place → Option ℤ) (items_are : AreItemValues units names known) where
  abbrev Has : DeclaredEnum → ℤ → Type 0
  Has e v = (i : DeclaredItem) × Contains e.items i × (known i.name.place ≡ Some v)

  inside_test : (s : Span) (v : ℤ) → IsInSpan v s → is_inside s v ≡ true
  inside_test s v h = and_from (int_le s.low v) (int_le v s.high) (le_test s.low v h.0) (le_test v s.high h.1)

  has_in : (e : DeclaredEnum) (s : Span) (v : ℤ) → Has e v → IsInSpan v s → enum_has known (enum_places e).items s ≡ true
  has_in e s v h inside = to_values known (is_inside s) e.items h.0 v h.1 h.2 (inside_test s v inside)

  in_has : (e : DeclaredEnum) (s : Span) → enum_has known (enum_places e).items s ≡ true → (v : ℤ) × Has e v × IsInSpan v s
  in_has e s any =
      let p = from_values known (is_inside s) e.items any in
      let both = and_parts (int_le s.low p.number) (int_le p.number s.high) p.passes in
      (p.number, (p.item, p.among, p.has), (by_le s.low p.number both.0, by_le p.number s.high both.1))

  -- a value of the type is that of an item of the enum
  has_value : (name : TypeName) (domain : Option DomainTree) (e : DeclaredEnum) → IsEnumNamed units at.component name e → (v : ℤ) → InEnum units names at name domain v → Has e v
  has_value name domain e named v there =
      let same = same_enum units at.component name there.enum e there.named named in
      (there.item, subst (λ (d : DeclaredEnum). Contains d.items there.item) same there.among, (items_are there.item.name.place v).1 there.has)

  empty_enum : (name : TypeName) (domain : Option DomainTree) (e : DeclaredEnum) → IsEnumNamed units at.component name e → is_empty_enum known (Some (enum_places e)) (is_some domain) (spans_of value (ranges_behind domain)) ≡ true
      → UseBreaks units names (HasType at (TypeNamed name domain)) (type_place (TypeNamed name domain)) 10
  empty_enum name None e named empty =
      let both = and_parts (are_known known (enum_places e).items) (nat_eq (length (values_of known (enum_places e).items)) 0) empty in
      Empty at (TypeNamed name None)
      (record {
        base = Enum name None e named (λ i among. let v = some_value (known i.name.place) (each_of place_of (λ (p : Place). is_some (known p)) e.items both.0 i among) in (v.0, (items_are i.name.place v.0).0 v.1));
        ranges = λ r (n, within, there). absurd (omega (arith, within));
      })
      (λ v there.
      let h = has_value name None e named v (in_enum units names at name None v there) in
      no_items (λ (z : ℤ). true) (values_of known (enum_places e).items) both.1 (to_values known (λ (z : ℤ). true) e.items h.0 v h.1 h.2 refl))
  empty_enum name (Some (MakeDomain in_place left ranges right)) e named empty =
      let domain = Some (MakeDomain in_place left ranges right) in
      let both = and_parts (are_known known (enum_places e).items) (keeps_nothing (enum_has known (enum_places e).items) (spans_of value (ranges_of ranges))) empty in
      Empty at (TypeNamed name domain)
      (record {
        base = Enum name domain e named (λ i among. let v = some_value (known i.name.place) (each_of place_of (λ (p : Place). is_some (known p)) e.items both.0 i among) in (v.0, (items_are i.name.place v.0).0 v.1));
        ranges = all_upright units names at value are (Has e) (enum_has known (enum_places e).items) (ranges_of ranges) both.1;
      })
      (λ v there.
      let inside = in_enum units names at name domain v there in
      none_kept units names at value are (Has e) (enum_has known (enum_places e).items) (ranges_of ranges) (λ s v a b. has_in e s v a b) both.1 v (has_value name domain e named v inside) inside.kept)

  empty_by : (name : TypeName) (domain : Option DomainTree) (o : Option EnumPlaces) → enum_named (declarations units) (map enum_places (enums units)) at.component name ≡ o
      → is_empty_enum known o (is_some domain) (spans_of value (ranges_behind domain)) ≡ true → UseBreaks units names (HasType at (TypeNamed name domain)) (type_place (TypeNamed name domain)) 10
  empty_by name domain None is empty = absurd (true≢false (sym empty))
  empty_by name domain (Some places) is empty =
      let found = from_named units at.component name places is in
      empty_enum name domain found.enum found.named
      (subst (λ (e : EnumPlaces). is_empty_enum known (Some e) (is_some domain) (spans_of value (ranges_behind domain)) ≡ true) (sym found.places) empty)

  pub enum_empty_is : (name : TypeName) (domain : Option DomainTree) → is_empty_enum known (enum_named (declarations units) (map enum_places (enums units)) at.component name) (is_some domain) (spans_of value (ranges_behind domain)) ≡ true
      → UseBreaks units names (HasType at (TypeNamed name domain)) (type_place (TypeNamed name domain)) 10
  enum_empty_is name domain empty = empty_by name domain (enum_named (declarations units) (map enum_places (enums units)) at.component name) refl empty

  all_known : (e : DeclaredEnum) → ((i : DeclaredItem) → Contains e.items i → (v : ℤ) × IsItemValue units names i.name.place v) → are_known known (enum_places e).items ≡ true
  all_known e each = all_from place_of (λ (p : Place). is_some (known p)) e.items (λ i among. let v = each i among in ap is_some ((items_are i.name.place v.0).1 v.1))

  empty_so : (name : TypeName) (domain : Option DomainTree) (e : DeclaredEnum) → IsEnumNamed units at.component name e → are_known known (enum_places e).items ≡ true
      → IsKnown units names at (TypeNamed name domain) → ((v : ℤ) → IsInType units names at (TypeNamed name domain) v → ⊥)
      → is_empty_enum known (Some (enum_places e)) (is_some domain) (spans_of value (ranges_behind domain)) ≡ true
  empty_so name None e named all parts none =
      and_from (are_known known (enum_places e).items) (nat_eq (length (values_of known (enum_places e).items)) 0) all
      (empty_list (values_of known (enum_places e).items) (λ any.
      let p = from_values known (λ (z : ℤ). true) e.items any in
      none p.number (OfEnum name None e p.item p.number named p.among ((items_are p.item.name.place p.number).0 p.has) tt)))
  empty_so name (Some (MakeDomain in_place left ranges right)) e named all parts none =
      and_from (are_known known (enum_places e).items) (keeps_nothing (enum_has known (enum_places e).items) (spans_of value (ranges_of ranges))) all
      (nothing_kept units names at value are (Has e) (enum_has known (enum_places e).items) (ranges_of ranges) (λ s any. in_has e s any) parts.ranges
      (λ v h kept. none v (OfEnum name (Some (MakeDomain in_place left ranges right)) e h.0 v named h.1 ((items_are h.0.name.place v).0 h.2) kept)))

  pub enum_is_empty : (name : TypeName) (domain : Option DomainTree) → IsKnown units names at (TypeNamed name domain) → ((v : ℤ) → IsInType units names at (TypeNamed name domain) v → ⊥)
      → is_empty_enum known (enum_named (declarations units) (map enum_places (enums units)) at.component name) (is_some domain) (spans_of value (ranges_behind domain)) ≡ true
  enum_is_empty name domain parts none =
      let k = known_enum units names at name domain parts.base in
      ap (λ (o : Option EnumPlaces). is_empty_enum known o (is_some domain) (spans_of value (ranges_behind domain))) (to_named units at.component name k.enum k.named)
      ∙ empty_so name domain k.enum k.named (all_known k.enum k.each) parts none
