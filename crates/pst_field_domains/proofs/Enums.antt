-- The values of enums as spans, and their rows by number.
use Rattle.std.proofs.Common.{◌≡◌, ◌↔◌, ◌⊎◌, inl, inr, arith, ℕ, zero, suc, ◌+◌, ◌<◌, length, get_or, map, Bool, true, false, refl, sym, ap, subst, ◌∙◌}
use Rattle.std.specs.Prelude.{ℤ, ◌≤ℤ◌, List, [], ◌∷◌, ◌++◌, Option, Some, None, slice_get, if◌then◌else◌}
use Rattle.std.specs.List.{AllZip, Contains, find}
use Rattle.std.specs.Option.{option_and_then, option_map, option_to_list}
use Rattle.std.proofs.lemmas.Int.{ints}
use Rattle.pst_base.specs.declared.position.Place.{Place}
use Rattle.pst_ast.specs.DeclarationTree.{EnumTree}
use Rattle.pst_expr.specs.declared.ranges.Span.{Span}
use Rattle.pst_expr.specs.Spans.{IsInSpan, IsInSpans}
use Rattle.pst_ast.specs.Sorts.{same_place}
use Rattle.pst_places.specs.Numbers.{number_from, number_in}
use Rattle.pst_site_lists.specs.declared.site.EnumSite.{EnumSite}
use Rattle.pst_evaluate.specs.Kept.{Kept, known_in}
use Rattle.pst_type_rules.specs.Enums.{enum_of}
use Rattle.pst_enum_values.specs.Gathered.{EnumPlaces, enum_places, places_in}
use Rattle.pst_enum_values.specs.Kept.{enum_in, places_of_site}
use Rattle.pst_field_domains.proofs.Rows.{places_are}
use Rattle.pst_joined_spans.specs.Joined.{AreJoined, HaveSame}
use Rattle.pst_joined_spans.proofs.In.{In, to_any, from_any, in_left, in_right, in_parts}
use Rattle.pst_field_domains.specs.Kept.{IsRowOf}
use Rattle.pst_field_domains.specs.Known.{AreEnumSpans, HasItem, IsFound, point, points}

-- ---- points

equal : (v w : ℤ) → w ≤ℤ v → v ≤ℤ w → w ≡ v
equal v w h k = omega (arith, ints, h, k)

module _ (known : Place → Option ℤ) where
  later : (p : Place) (more : List Place) (v : ℤ) → HasItem known more v → HasItem known (p ∷ more) v
  later p more v h = let c = h.1 in (h.0, (suc c.0, omega (arith, c.1), c.2), h.2)

  here : (p : Place) (more : List Place) (v : ℤ) (o : Option ℤ) → known p ≡ o → In v (option_to_list (option_map point o)) → HasItem known (p ∷ more) v
  here p more v None is h = absurd h
  here p more v (Some w) is (inl h) = (p, (0, omega arith, refl), is ∙ ap Some (equal v w h.0 h.1))
  here p more v (Some w) is (inr h) = absurd h

  either : (p : Place) (more : List Place) (v : ℤ) → (In v (points known more) → HasItem known more v) → In v (option_to_list (option_map point (known p))) ⊎ In v (points known more) → HasItem known (p ∷ more) v
  either p more v rest (inl h) = here p more v (known p) refl h
  either p more v rest (inr h) = later p more v (rest h)

  pub of_points : (places : List Place) (v : ℤ) → In v (points known places) → HasItem known places v
  of_points [] v h = absurd h
  of_points (p ∷ more) v h = either p more v (of_points more v) (in_parts v (option_to_list (option_map point (known p))) (points known more) h)

  self : (v : ℤ) → IsInSpan v (point v)
  self v = (omega (arith, ints), omega (arith, ints))

  at_head : (p q : Place) (more : List Place) (v : ℤ) → p ≡ q → known q ≡ Some v → In v (option_to_list (option_map point (known p)) ++ points known more)
  at_head p q more v same has =
      in_left v (option_to_list (option_map point (known p))) (points known more)
      (subst (λ (o : Option ℤ). In v (option_to_list (option_map point o))) (sym (ap known same ∙ has)) (inl (self v)))

  at_number : (places : List Place) (v : ℤ) (n : ℕ) (q : Place) → n < length places → get_or places n q ≡ q → known q ≡ Some v → In v (points known places)
  at_number [] v n q less is has = absurd (omega (arith, less))
  at_number (p ∷ more) v zero q less is has = at_head p q more v is has
  at_number (p ∷ more) v (suc n) q less is has = in_right v (option_to_list (option_map point (known p))) (points known more) (at_number more v n q (omega (arith, less)) is has)

  pub to_points : (places : List Place) (v : ℤ) → HasItem known places v → In v (points known places)
  to_points places v h = at_number places v h.1.0 h.0 h.1.1 h.1.2 h.2

  pub are_enum_spans : (component : Option Place) (t : EnumTree) (found spans : List Span) → found ≡ points known (places_in t) → AreJoined spans → HaveSame spans found
      → AreEnumSpans known (enum_places (enum_of component t)).items spans
  are_enum_spans component t found spans is joined same =
      let places = places_in t in
      subst (λ (ps : List Place). AreEnumSpans known ps spans) (sym (places_are component t)) (
        joined,
        λ v. (
          λ h. of_points places v (subst (In v) is (from_any v found ((same v).0 h))),
          λ h. (same v).1 (to_any v found (subst (In v) (sym is) (to_points places v h))),
        ),
      )

-- ---- rows by number

number_if : (b : Bool) (n : ℕ) (o : Option ℕ) → (if b then Some (suc n) else option_map (λ (m : ℕ). suc m) o) ≡ option_map (λ (m : ℕ). suc m) (if b then Some n else o)
number_if true n o = refl
number_if false n o = refl

pub one_further : (n : ℕ) (ps : List Place) (p : Place) → number_from (suc n) ps p ≡ option_map (λ (m : ℕ). suc m) (number_from n ps p)
one_further n [] p = refl
one_further n (q ∷ ps) p =
    ap (λ (o : Option ℕ). if same_place q p then Some (suc n) else o) (one_further (suc n) ps p) ∙ number_if (same_place q p) n (number_from (suc n) ps p)

pub behind : {X : Type 0} (row : X) (rows : List X) (o : Option ℕ) → option_and_then (slice_get (row ∷ rows)) (option_map (λ (m : ℕ). suc m) o) ≡ option_and_then (slice_get rows) o
behind row rows None = refl
behind row rows (Some n) = refl

module _ (k : Kept) (p : Place) where
  found_if : (e : EnumSite) (es : List EnumSite) (row : List Span) (rows : List (List Span)) (b : Bool) → IsRowOf k e row
      → IsFound (known_in k) (find (λ (d : EnumPlaces). same_place d.name p) (map places_of_site es)) (option_and_then (slice_get rows) (number_from 0 (map (λ (s : EnumSite). s.node.now.name.place) es) p))
      → IsFound (known_in k) (if b then Some (places_of_site e) else find (λ (d : EnumPlaces). same_place d.name p) (map places_of_site es))
      (option_and_then (slice_get (row ∷ rows)) (if b then Some 0 else number_from 1 (map (λ (s : EnumSite). s.node.now.name.place) es) p))
  found_if e es row rows true first rest = first
  found_if e es row rows false first rest =
      subst (λ (o : Option (List Span)). IsFound (known_in k) (find (λ (d : EnumPlaces). same_place d.name p) (map places_of_site es)) o)
      (sym (ap (option_and_then (slice_get (row ∷ rows))) (one_further 0 (map (λ (s : EnumSite). s.node.now.name.place) es) p) ∙ behind row rows (number_from 0 (map (λ (s : EnumSite). s.node.now.name.place) es) p)))
      rest

  found_row : (enums : List EnumSite) (rows : List (List Span)) → AllZip (IsRowOf k) enums rows
      → IsFound (known_in k) (find (λ (d : EnumPlaces). same_place d.name p) (map places_of_site enums)) (option_and_then (slice_get rows) (number_from 0 (map (λ (s : EnumSite). s.node.now.name.place) enums) p))
  found_row [] rows zip = tt
  found_row (e ∷ es) [] zip = absurd zip
  found_row (e ∷ es) (row ∷ rows) zip = found_if e es row rows (same_place e.node.now.name.place p) zip.0 (found_row es rows zip.1)

  pub found_by_number : (enums : List EnumSite) (rows : List (List Span)) (places : List Place) (found : Option (List Span)) → AllZip (IsRowOf k) enums rows
      → places ≡ map (λ (s : EnumSite). s.node.now.name.place) enums → found ≡ option_and_then (slice_get rows) (number_in places p) → IsFound (known_in k) (enum_in (map places_of_site enums) p) found
  unfolding number_in
  found_by_number enums rows places found zip are is =
      subst (λ (o : Option (List Span)). IsFound (known_in k) (enum_in (map places_of_site enums) p) o) (sym (is ∙ ap (λ (ps : List Place). option_and_then (slice_get rows) (number_in ps p)) are)) (found_row enums rows zip)
