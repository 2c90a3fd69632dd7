-- The values of types, by those of constants and of enum items.
use Rattle.std.proofs.Common.{◌≡◌, ◌↔◌, ◌⊎◌, inl, inr, arith, ℕ, zero, suc, ◌<◌, length, get_or, map, Bool, true, false, refl, sym, ap, subst, ◌∙◌}
use Rattle.std.specs.Prelude.{ℤ, pos, negsuc, ◌≤ℤ◌, List, [], ◌∷◌, ◌++◌, Option, Some, None, if◌then◌else◌}
use Rattle.std.specs.List.{Contains, find}
use Rattle.std.specs.Option.{option_and_then, option_map, option_to_list}
use Rattle.pst_base.specs.declared.position.Place.{Place}
use Rattle.pst_ast.specs.declared.shared.TypeName.{TypeName}
use Rattle.pst_ast.specs.ExpressionTree.{ExprTree, RangeTree}
use Rattle.pst_ast.specs.SharedTree.{WidthTree, PlainTree, PlainInt, PlainBit, PlainBool, DomainTree, MakeDomain, TypeTree, TypePlain, TypeNamed}
use Rattle.pst_ast.specs.DeclarationTree.{UnitTree}
use Rattle.pst_expr.specs.declared.ranges.Span.{Span}
use Rattle.pst_expr.specs.Spans.{IsInSpan, IsInSpans}
use Rattle.pst_ast.specs.declared.scope_declaration.Declaration.{Declaration}
use Rattle.pst_ast.specs.declared.environment.Environment.{Environment}
use Rattle.pst_ast.specs.Declarations.{declarations}
use Rattle.pst_ast.specs.Lookups.{type_named}
use Rattle.pst_ast.specs.Sorts.{same_place}
use Rattle.pst_type_rules.specs.Constants.{IsConstant, IsItemValue}
use Rattle.pst_type_rules.specs.Domains.{HasSpan, Int, IntOfWidth, Bit, BitOfWidth, Boolean, signed_span, unsigned_span, span, ranges_of, IsEnumNamed, IsInRanges, IsInType, IsKept, IsSpanOf, OfPlain, OfEnum}
use Rattle.pst_type_rules.specs.Enums.{DeclaredItem, DeclaredEnum, enums, enum_at}
use Rattle.pst_evaluate.specs.Kept.{constant_by}
use Rattle.pst_evaluate.specs.Laws.{ConstantsAreFound}
use Rattle.pst_evaluate.specs.Settled.{AreItemValues}
use Rattle.pst_enum_values.specs.Gathered.{EnumPlaces, enum_places}
use Rattle.pst_enum_values.specs.Kept.{enum_in}
use Rattle.pst_joined_spans.specs.Joined.{AreJoined}
use Rattle.pst_joined_spans.proofs.In.{In, from_any, to_any, in_left, in_right, in_parts}
use Rattle.pst_range_rules.specs.Spans.{span_of}
use Rattle.pst_range_rules.specs.Types.{base_span, signed_of, unsigned_of}
use Rattle.pst_range_rules.specs.Widths.{width_by}
use Rattle.pst_field_domains.proofs.Parts.{from_span, to_span, some_is, none_is_some, width_is, is_width}
use Rattle.pst_field_domains.specs.Known.{AreNamed, ArePlain, AreTyped, HasItem, IsKeptBy, enum_of_name, known_spans}

-- ---- items by their places

place_in : (items : List DeclaredItem) (n : ℕ) (p : Place) → n < length (map (λ (i : DeclaredItem). i.name.place) items) → get_or (map (λ (i : DeclaredItem). i.name.place) items) n p ≡ p
    → (i : DeclaredItem) × Contains items i × (i.name.place ≡ p)
place_in [] n p less is = absurd (omega (arith, less))
place_in (i ∷ more) zero p less is = (i, (0, omega arith, refl), is)
place_in (i ∷ more) (suc n) p less is = let found = place_in more n p (omega (arith, less)) is in let c = found.1 in (found.0, (suc c.0, omega (arith, c.1), c.2), found.2)

item_of : (items : List DeclaredItem) (n : ℕ) (i : DeclaredItem) → n < length items → get_or items n i ≡ i → Contains (map (λ (j : DeclaredItem). j.name.place) items) i.name.place
item_of [] n i less is = absurd (omega (arith, less))
item_of (j ∷ more) zero i less is = (0, omega arith, ap (λ (x : DeclaredItem). x.name.place) is)
item_of (j ∷ more) (suc n) i less is = let c = item_of more n i (omega (arith, less)) is in (suc c.0, omega (arith, c.1), c.2)

-- ---- the enum that a name stands for

place_if : (b : Bool) (e : DeclaredEnum) (o : Option DeclaredEnum) → (if b then Some (enum_places e) else option_map enum_places o) ≡ option_map enum_places (if b then Some e else o)
place_if true e o = refl
place_if false e o = refl

places_found : (all : List DeclaredEnum) (p : Place) → enum_in (map enum_places all) p ≡ option_map enum_places (find (λ (e : DeclaredEnum). same_place e.name.place p) all)
places_found [] p = refl
places_found (e ∷ more) p =
    ap (λ (o : Option EnumPlaces). if same_place e.name.place p then Some (enum_places e) else o) (places_found more p)
    ∙ place_if (same_place e.name.place p) e (find (λ (e : DeclaredEnum). same_place e.name.place p) more)

module _ (units : List UnitTree) where
  abbrev all : List EnumPlaces
  all = map enum_places (enums units)

  places_at : (p : Place) → enum_in all p ≡ option_map enum_places (enum_at units p)
  unfolding enum_at
  places_at p = places_found (enums units) p

  -- an enum with its places
  record Named (component : Option Place) (name : TypeName) (e : EnumPlaces) : Type 0 where
    pub enum : DeclaredEnum
    pub named : IsEnumNamed units component name enum
    pub places : enum_places enum ≡ e

  named_by : (component : Option Place) (name : TypeName) (e : EnumPlaces) (d : Declaration) (o : Option DeclaredEnum) → type_named (declarations units) component name ≡ Some d → enum_at units d.name.place ≡ o
      → option_map enum_places o ≡ Some e → Named component name e
  named_by component name e d None there is same = absurd (none_is_some e same)
  named_by component name e d (Some enum) there is same = record { enum = enum; named = record { declaration = d; named = there; is = is }; places = some_is (enum_places enum) e same }

  named_if : (component : Option Place) (name : TypeName) (e : EnumPlaces) (o : Option Declaration) → type_named (declarations units) component name ≡ o
      → option_and_then (λ (d : Declaration). enum_in all d.name.place) o ≡ Some e → Named component name e
  named_if component name e None there is = absurd (none_is_some e is)
  named_if component name e (Some d) there is = named_by component name e d (enum_at units d.name.place) there refl (sym (places_at d.name.place) ∙ is)

  module _ (at : Environment) where
    from_named : (name : TypeName) (e : EnumPlaces) → enum_of_name (declarations units) all at name ≡ Some e → Named at.component name e
    from_named name e is = named_if at.component name e (type_named (declarations units) at.component name) refl is

    to_named : (name : TypeName) (enum : DeclaredEnum) → IsEnumNamed units at.component name enum → enum_of_name (declarations units) all at name ≡ Some (enum_places enum)
    to_named name enum is =
        ap (option_and_then (λ (d : Declaration). enum_in all d.name.place)) is.named ∙ places_at is.declaration.name.place ∙ ap (option_map enum_places) is.is

module _ (units : List UnitTree) (names : List (List ℕ)) (at : Environment) (value : ExprTree → Option ℤ) (are : (expr : ExprTree) (v : ℤ) → (value expr ≡ Some v) ↔ IsConstant units names at expr v) where
  -- ---- ranges

  in_first : (r : RangeTree) (more : List RangeTree) (v : ℤ) (o : Option Span) → span_of value r ≡ o → In v (option_to_list o) → IsInRanges units names at (r ∷ more) v
  in_first r more v None is h = absurd h
  in_first r more v (Some s) is (inl h) = record { range = r; among = (0, omega arith, refl); span = s; is = from_span units names at value are r s is; inside = h }
  in_first r more v (Some s) is (inr h) = absurd h

  in_rest : (r : RangeTree) (more : List RangeTree) (v : ℤ) → IsInRanges units names at more v → IsInRanges units names at (r ∷ more) v
  in_rest r more v h = let c = h.among in record { range = h.range; among = (suc c.0, omega (arith, c.1), c.2); span = h.span; is = h.is; inside = h.inside }

  in_both : (r : RangeTree) (more : List RangeTree) (v : ℤ) → (In v (known_spans value more) → IsInRanges units names at more v) → In v (option_to_list (span_of value r)) ⊎ In v (known_spans value more)
      → IsInRanges units names at (r ∷ more) v
  in_both r more v rest (inl h) = in_first r more v (span_of value r) refl h
  in_both r more v rest (inr h) = in_rest r more v (rest h)

  of_known : (ranges : List RangeTree) (v : ℤ) → In v (known_spans value ranges) → IsInRanges units names at ranges v
  of_known [] v h = absurd h
  of_known (r ∷ more) v h = in_both r more v (of_known more v) (in_parts v (option_to_list (span_of value r)) (known_spans value more) h)

  to_known : (ranges : List RangeTree) (v : ℤ) (n : ℕ) (r : RangeTree) (s : Span) → n < length ranges → get_or ranges n r ≡ r → IsSpanOf units names at r s → IsInSpan v s → In v (known_spans value ranges)
  to_known [] v n r s less is has h = absurd (omega (arith, less))
  to_known (q ∷ more) v zero r s less is has h =
      in_left v (option_to_list (span_of value q)) (known_spans value more)
      (subst (λ (o : Option Span). In v (option_to_list o)) (sym (ap (span_of value) is ∙ to_span units names at value are r s has)) (inl h))
  to_known (q ∷ more) v (suc n) r s less is has h = in_right v (option_to_list (span_of value q)) (known_spans value more) (to_known more v n r s (omega (arith, less)) is has h)

  kept_to : (domain : Option DomainTree) (v : ℤ) → IsKeptBy value domain v → IsKept units names at domain v
  kept_to None v h = tt
  kept_to (Some (MakeDomain in_place left ranges right)) v h = of_known (ranges_of ranges) v (from_any v (known_spans value (ranges_of ranges)) h)

  kept_from : (domain : Option DomainTree) (v : ℤ) → IsKept units names at domain v → IsKeptBy value domain v
  kept_from None v h = tt
  kept_from (Some (MakeDomain in_place left ranges right)) v h =
      to_any v (known_spans value (ranges_of ranges)) (to_known (ranges_of ranges) v h.among.0 h.range h.span h.among.1 h.among.2 h.is h.inside)

  -- ---- plain types

  signed_is : (place : Place) (width : WidthTree) (s : Span) (o : Option ℤ) → width_by value width ≡ o → option_and_then signed_of o ≡ Some s → HasSpan units names at (PlainInt place (Some width)) s
  signed_is place width s None is e = absurd (none_is_some s e)
  signed_is place width s (Some (pos w)) is e =
      subst (λ (t : Span). HasSpan units names at (PlainInt place (Some width)) t) (some_is (signed_span w) s e) (IntOfWidth place width w (width_is units names at value are width (pos w) is))
  signed_is place width s (Some (negsuc n)) is e = absurd (none_is_some s e)

  unsigned_is : (place : Place) (width : WidthTree) (s : Span) (o : Option ℤ) → width_by value width ≡ o → option_and_then unsigned_of o ≡ Some s → HasSpan units names at (PlainBit place (Some width)) s
  unsigned_is place width s None is e = absurd (none_is_some s e)
  unsigned_is place width s (Some (pos w)) is e =
      subst (λ (t : Span). HasSpan units names at (PlainBit place (Some width)) t) (some_is (unsigned_span w) s e) (BitOfWidth place width w (width_is units names at value are width (pos w) is))
  unsigned_is place width s (Some (negsuc n)) is e = absurd (none_is_some s e)

  base_is : (plain : PlainTree) (s : Span) → base_span value plain ≡ Some s → HasSpan units names at plain s
  base_is (PlainInt place None) s e = subst (λ (t : Span). HasSpan units names at (PlainInt place None) t) (some_is (signed_span 32) s e) (Int place)
  base_is (PlainInt place (Some width)) s e = signed_is place width s (width_by value width) refl e
  base_is (PlainBit place None) s e = subst (λ (t : Span). HasSpan units names at (PlainBit place None) t) (some_is (unsigned_span 1) s e) (Bit place)
  base_is (PlainBit place (Some width)) s e = unsigned_is place width s (width_by value width) refl e
  base_is (PlainBool place) s e = subst (λ (t : Span). HasSpan units names at (PlainBool place) t) (some_is (span (pos 0) (pos 1)) s e) (Boolean place)

  is_base : (plain : PlainTree) (s : Span) → HasSpan units names at plain s → base_span value plain ≡ Some s
  is_base _ _ (Int place) = refl
  is_base _ _ (IntOfWidth place width w has) = ap (option_and_then signed_of) (is_width units names at value are width (pos w) has)
  is_base _ _ (Bit place) = refl
  is_base _ _ (BitOfWidth place width w has) = ap (option_and_then unsigned_of) (is_width units names at value are width (pos w) has)
  is_base _ _ (Boolean place) = refl

  from_plain : (plain : PlainTree) (domain : Option DomainTree) (v : ℤ) → IsInType units names at (TypePlain plain domain) v
      → (s : Span) × (base_span value plain ≡ Some s) × IsInSpan v s × IsKeptBy value domain v
  from_plain _ _ _ (OfPlain plain domain s v has inside kept) = (s, is_base plain s has, inside, kept_from domain v kept)

  plain_typed : (plain : PlainTree) (domain : Option DomainTree) (spans : List Span) → ArePlain value (base_span value plain) domain spans → (v : ℤ) → IsInSpans v spans ↔ IsInType units names at (TypePlain plain domain) v
  plain_typed plain domain spans is v = (
    λ h. let c = (is.1 v).0 h in OfPlain plain domain c.0 v (base_is plain c.0 c.1) c.2 (kept_to domain v c.3),
    λ h. (is.1 v).1 (from_plain plain domain v h),
  )

  -- ---- enums

  module _ (known : Place → Option ℤ) (items_are : AreItemValues units names known) where
    to_enum : (name : TypeName) (domain : Option DomainTree) (v : ℤ) (e : EnumPlaces) → enum_of_name (declarations units) (all units) at name ≡ Some e → HasItem known e.items v → IsKeptBy value domain v
        → IsInType units names at (TypeNamed name domain) v
    to_enum name domain v e is has kept =
        let n = from_named units at name e is in
        let there = subst (λ (x : EnumPlaces). HasItem known x.items v) (sym n.places) has in
        let found = place_in n.enum.items there.1.0 there.0 there.1.1 there.1.2 in
        OfEnum name domain n.enum found.0 v n.named found.1 ((items_are found.0.name.place v).0 (ap known found.2 ∙ there.2)) (kept_to domain v kept)

    from_enum : (name : TypeName) (domain : Option DomainTree) (v : ℤ) → IsInType units names at (TypeNamed name domain) v
        → (e : EnumPlaces) × (enum_of_name (declarations units) (all units) at name ≡ Some e) × HasItem known e.items v × IsKeptBy value domain v
    from_enum _ _ _ (OfEnum name domain e i v named among has kept) =
        (enum_places e, to_named units at name e named, (i.name.place, item_of e.items among.0 i among.1 among.2, (items_are i.name.place v).1 has), kept_from domain v kept)

    enum_typed : (name : TypeName) (domain : Option DomainTree) (spans : List Span) → AreNamed value known (enum_of_name (declarations units) (all units) at name) domain spans
        → (v : ℤ) → IsInSpans v spans ↔ IsInType units names at (TypeNamed name domain) v
    enum_typed name domain spans is v = (
      λ h. let c = (is.1 v).0 h in to_enum name domain v c.0 c.1 c.2 c.3,
      λ h. (is.1 v).1 (from_enum name domain v h),
    )

module _ (found : ConstantsAreFound) (units : List UnitTree) (names : List (List ℕ)) (at : Environment) (known : Place → Option ℤ) (items_are : AreItemValues units names known) where
  abbrev value : ExprTree → Option ℤ
  value expr = constant_by (declarations units) names known at expr

  are_constants : (expr : ExprTree) (v : ℤ) → (value expr ≡ Some v) ↔ IsConstant units names at expr v
  are_constants expr v = found units names known at expr v items_are

  pub is_joined : (type : TypeTree) (spans : List Span) → AreTyped value known (declarations units) (all units) at type spans → AreJoined spans
  is_joined (TypePlain plain domain) spans is = is.0
  is_joined (TypeNamed name domain) spans is = is.0

  pub typed : (type : TypeTree) (spans : List Span) → AreTyped value known (declarations units) (all units) at type spans → (v : ℤ) → IsInSpans v spans ↔ IsInType units names at type v
  typed (TypePlain plain domain) spans is = plain_typed units names at value are_constants plain domain spans is
  typed (TypeNamed name domain) spans is = enum_typed units names at value are_constants known items_are name domain spans is
