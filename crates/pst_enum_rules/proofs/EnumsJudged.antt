-- What is found of an enum is the least of what it breaks.
use Rattle.std.proofs.Common.{◌≡◌, ◌⊎◌, inl, inr, ⊎_elim, ℕ, Bool, true, false, ◌||◌, ◌&&◌, not, List, [], ◌∷◌, ◌++◌, append_assoc, Option, refl, sym, ap, subst, ◌∙◌, arith, true≢false}
use Rattle.std.specs.Prelude.{ℤ, pos, ◌≤ℤ◌, int_lt, map, Some, None, Contains, is_some, if◌then◌else◌}
use Rattle.std.specs.Option.{option_map, option_map_or}
use Rattle.std.proofs.lemmas.Int.{ints}
use Rattle.std.proofs.lemmas.Bool.Decides.{Decides-int_eq}
use Rattle.std.proofs.lemmas.List.Elements.{Contains-append_left, Contains-append_right, Contains-push, Contains-push_cases}
use Rattle.pst_base.specs.declared.position.Place.{Place}
use Rattle.pst_base.specs.Laws.{BeforeGoesOn}
use Rattle.pst_ast.specs.declared.leaf.Name.{Name}
use Rattle.pst_ast.specs.DeclarationTree.{UnitTree, EnumTree, MakeEnum, EnumItemTree, MakeEnumItem, EnumValueTree}
use Rattle.pst_ast.specs.DeclarationView.{view_enum}
use Rattle.pst_expr.specs.Spans.{IsInSpan}
use Rattle.pst_ast.specs.declared.referent.Finding.{Finding}
use Rattle.pst_ast.specs.Declarations.{next_item}
use Rattle.pst_ast.specs.NameRules.{finding}
use Rattle.pst_type_rules.specs.Enums.{DeclaredEnum, DeclaredItem, enum_of, enums, expr_in, items_behind}
use Rattle.pst_type_rules.specs.Limits.{enum_values}
use Rattle.pst_type_rules.specs.Places.{expr_place}
use Rattle.pst_type_rules.specs.TypeRules.{EnumBreaks, ItemOutside, SameValue, item_place}
use Rattle.pst_evaluate.specs.Settled.{AreItemValues}
use Rattle.pst_name_rules.specs.Earlier.{earlier}
use Rattle.pst_name_rules.specs.Leasts.{IsIn, IsLeastOf, least_at}
use Rattle.pst_name_rules.proofs.Leasts.{least_in, same_some, some_is_none, told}
use Rattle.pst_site_lists.specs.declared.site.EnumSite.{EnumSite}
use Rattle.pst_site_lists.specs.Sited.{view_enum_site}
use Rattle.pst_enum_rules.specs.Breaches.{IsEnumBreach}
use Rattle.pst_enum_rules.specs.Enums.{enum_least, is_outside, is_value, least_of_items, name_place, place_of_value, seen_finding}
use Rattle.pst_enum_rules.proofs.LeastOfEach.{cons_cases, cons_first, cons_rest, least_of_each, none_in}

-- ---- tests

or_cases : (a b : Bool) → (a || b) ≡ true → (a ≡ true) ⊎ (b ≡ true)
or_cases true b e = inl refl
or_cases false b e = inr e

or_left : (a b : Bool) → a ≡ true → (a || b) ≡ true
or_left true b e = refl
or_left false b e = absurd (true≢false (sym e))

or_right : (a b : Bool) → b ≡ true → (a || b) ≡ true
or_right true b e = refl
or_right false b e = e

value_so : (value : Option ℤ) (v : ℤ) → is_value value v ≡ true → value ≡ Some v
value_so None v e = absurd (true≢false (sym e))
value_so (Some w) v e = ap Some (sym ((Decides-int_eq v w).0 e))

so_value : (value : Option ℤ) (v : ℤ) → value ≡ Some v → is_value value v ≡ true
so_value value v e = subst (λ (o : Option ℤ). is_value o v ≡ true) (sym e) ((Decides-int_eq v v).1 refl)

no_value : (v : ℤ) → (int_lt v (pos 0) || int_lt (pos 2147483647) v) ≡ true → IsInSpan v enum_values → ⊥
no_value v e inside = ⊎_elim (λ low. under low inside.0) (λ high. over high inside.1) (or_cases (int_lt v (pos 0)) (int_lt (pos 2147483647) v) e)
  where
    under : int_lt v (pos 0) ≡ true → pos 0 ≤ℤ v → ⊥
    under low from = omega (arith, ints, low, from)

    over : int_lt (pos 2147483647) v ≡ true → v ≤ℤ pos 2147483647 → ⊥
    over high to = omega (arith, ints, high, to)

a_value : (v : ℤ) (low high : Bool) → int_lt v (pos 0) ≡ low → int_lt (pos 2147483647) v ≡ high → (low || high) ≡ false → IsInSpan v enum_values
a_value v true high l h e = absurd (true≢false e)
a_value v false true l h e = absurd (true≢false e)
a_value v false false l h e = (omega (arith, ints, l), omega (arith, ints, h))

-- ---- lists

abbrev head_or : {X : Type 0} → X → List X → X
head_or d [] = d
head_or d (x ∷ xs) = x

abbrev tail_of : {X : Type 0} → List X → List X
tail_of [] = []
tail_of (x ∷ xs) = xs

first_same : {X : Type 0} {x y : X} {xs ys : List X} → x ∷ xs ≡ y ∷ ys → x ≡ y
first_same {x = x} e = ap (head_or x) e

rest_same : {X : Type 0} {x y : X} {xs ys : List X} → x ∷ xs ≡ y ∷ ys → xs ≡ ys
rest_same e = ap tail_of e

-- ---- items

-- an item that stands somewhere in an enum
abbrev as_item : Option Place → Option Name → EnumItemTree → DeclaredItem
as_item component before (MakeEnumItem name value) = record { component = component; name = name; before = before; expr = option_map expr_in value }

place_is : (name : Name) (value : Option EnumValueTree) → place_of_value name.place value ≡ option_map_or expr_place (option_map expr_in value) name.place
place_is name None = refl
place_is name (Some value) = refl

-- an item, and which values have been seen before it
record Mark : Type 0 where
  seen : ℤ → Bool
  item : EnumItemTree

module _ (known : Place → Option ℤ) where
  abbrev more_seen : (ℤ → Bool) → EnumItemTree → ℤ → Bool
  more_seen seen item v = is_value (known (name_place item)) v || seen v

  marks : (ℤ → Bool) → List EnumItemTree → List Mark
  marks seen [] = []
  marks seen (item ∷ more) = record { seen = seen; item = item } ∷ marks (more_seen seen item) more

  mark_finding : Mark → Option Finding
  mark_finding m = seen_finding known m.seen m.item

  as_marks : (seen : ℤ → Bool) (least : Option Finding) (items : List EnumItemTree) → least_of_items known seen least items ≡ least_at mark_finding (marks seen items) least
  unfolding marks mark_finding
  as_marks seen least [] = refl
  as_marks seen least (item ∷ more) = as_marks (more_seen seen item) (earlier least (seen_finding known seen item)) more

module _ (units : List UnitTree) (names : List (List ℕ)) (known : Place → Option ℤ) (are : AreItemValues units names known) (component : Option Place) (e : DeclaredEnum) where
  abbrev Breaks : Finding → Type 0
  Breaks f = EnumBreaks units names e f.place f.rule

  -- just the values of items in front have been seen
  record AreSeen (front : List DeclaredItem) (seen : ℤ → Bool) : Type 0 where
    back : (v : ℤ) → seen v ≡ true → (j : DeclaredItem) × Contains front j × (known j.name.place ≡ Some v)
    all : (j : DeclaredItem) (v : ℤ) → Contains front j → known j.name.place ≡ Some v → seen v ≡ true

  -- the item itself, behind those in front
  module _ (front : List DeclaredItem) (seen : ℤ → Bool) (are_seen : AreSeen front seen) (i : DeclaredItem) where
    abbrev Back : ℤ → Type 0
    Back v = (j : DeclaredItem) × Contains (front ++ i ∷ []) j × (known j.name.place ≡ Some v)

    back_more : (v : ℤ) → (is_value (known i.name.place) v || seen v) ≡ true → Back v
    back_more v so = ⊎_elim
        (λ here. (i, Contains-push front i, value_so (known i.name.place) v here))
        (λ there. let (j, among, is) = are_seen.back v there in (j, Contains-append_left front (i ∷ []) j among, is))
        (or_cases (is_value (known i.name.place) v) (seen v) so)

    all_more : (j : DeclaredItem) (v : ℤ) → Contains (front ++ i ∷ []) j → known j.name.place ≡ Some v → (is_value (known i.name.place) v || seen v) ≡ true
    all_more j v among is = ⊎_elim
        (λ there. or_right (is_value (known i.name.place) v) (seen v) (are_seen.all j v there is))
        (λ same. or_left (is_value (known i.name.place) v) (seen v) (so_value (known i.name.place) v (ap (λ (k : DeclaredItem). known k.name.place) same ∙ is)))
        (Contains-push_cases front i j among)

  module _ (name : Name) (value : Option EnumValueTree) (before : Option Name) (front more : List DeclaredItem) (split : e.items ≡ front ++ as_item component before (MakeEnumItem name value) ∷ more)
      (seen : ℤ → Bool) (are_seen : AreSeen front seen) where
    abbrev this : DeclaredItem
    this = as_item component before (MakeEnumItem name value)

    abbrev place : Place
    place = place_of_value name.place value

    repeated_by : (o : Option ℤ) → known name.place ≡ o → option_map_or seen o false ≡ true → EnumBreaks units names e place 12
    repeated_by None is so = absurd (true≢false (sym so))
    repeated_by (Some v) is so =
        let (j, among, has) = are_seen.back v so in
        subst (λ (p : Place). EnumBreaks units names e p 12) (sym (place_is name value))
        (SameValue front more j this v split among ((are j.name.place v).0 has) ((are name.place v).0 is))

    outside_by : (given : Option EnumValueTree) (o : Option ℤ) → value ≡ given → known name.place ≡ o → (not (is_some given) && is_outside o) ≡ true → EnumBreaks units names e place 12
    outside_by (Some x) o g is so = absurd (true≢false (sym so))
    outside_by None None g is so = absurd (true≢false (sym so))
    outside_by None (Some v) g is so =
        subst (λ (p : Place). EnumBreaks units names e p 12) (ap (λ (x : Option EnumValueTree). place_of_value name.place x) (sym g))
        (ItemOutside this v (subst (λ (is : List DeclaredItem). Contains is this) (sym split) (Contains-append_right front (this ∷ more) this (cons_first this more))) (ap (option_map expr_in) g)
        ((are name.place v).0 is) (no_value v so))

    broken_by : (r o : Bool) → option_map_or seen (known name.place) false ≡ r → (not (is_some value) && is_outside (known name.place)) ≡ o → (f : Finding)
        → (if r || o then finding place 12 else None) ≡ Some f → Breaks f
    broken_by true o r_is o_is f found = subst Breaks (same_some found) (repeated_by (known name.place) refl r_is)
    broken_by false true r_is o_is f found = subst Breaks (same_some found) (outside_by value (known name.place) refl refl o_is)
    broken_by false false r_is o_is f found = absurd (some_is_none (sym found))

    this_breaks : (f : Finding) → seen_finding known seen (MakeEnumItem name value) ≡ Some f → Breaks f
    this_breaks f found = broken_by _ _ refl refl f found

  abbrev before_of : EnumItemTree → Option Name
  before_of (MakeEnumItem name value) = Some name

  to_breaks : (items : List EnumItemTree) (before : Option Name) (front : List DeclaredItem) (seen : ℤ → Bool) → AreSeen front seen → e.items ≡ front ++ items_behind component before items
      → (f : Finding) → IsIn (mark_finding known) (marks known seen items) f → Breaks f
  unfolding marks mark_finding
  to_breaks [] before front seen are_seen split f there = absurd there
  to_breaks (MakeEnumItem name value ∷ more) before front seen are_seen split f there = ⊎_elim
      (λ here. this_breaks name value before front (items_behind component (Some name) more) split seen are_seen f here)
      (λ later.
      let this = as_item component before (MakeEnumItem name value) in
      to_breaks more (Some name) (front ++ this ∷ []) (more_seen known seen (MakeEnumItem name value))
      (record { back = back_more front seen are_seen this; all = all_more front seen are_seen this })
      (split ∙ sym (append_assoc front (this ∷ []) (items_behind component (Some name) more))) f later)
      there

  -- ---- each breach is found

  abbrev Found : (ℤ → Bool) → List EnumItemTree → Place → Type 0
  Found seen items place = IsIn (mark_finding known) (marks known seen items) (record { place = place; rule = 12 })

  found_by : (name : Name) (value : Option EnumValueTree) (seen : ℤ → Bool) → (option_map_or seen (known name.place) false || (not (is_some value) && is_outside (known name.place))) ≡ true
      → seen_finding known seen (MakeEnumItem name value) ≡ finding (place_of_value name.place value) 12
  found_by name value seen so = ap (λ (b : Bool). if b then finding (place_of_value name.place value) 12 else None) so

  outside_so : (v : ℤ) (o : Bool) → (int_lt v (pos 0) || int_lt (pos 2147483647) v) ≡ o → (IsInSpan v enum_values → ⊥) → o ≡ true
  outside_so v true is out = refl
  outside_so v false is out = absurd (out (a_value v (int_lt v (pos 0)) (int_lt (pos 2147483647) v) refl refl is))

  none_given : (value : Option EnumValueTree) → option_map expr_in value ≡ None → value ≡ None
  none_given None e = refl
  none_given (Some x) e = absurd (true≢false (ap is_some e))

  outside_found : (items : List EnumItemTree) (before : Option Name) (seen : ℤ → Bool) (i : DeclaredItem) (v : ℤ) → Contains (items_behind component before items) i → i.expr ≡ None → known i.name.place ≡ Some v
      → (IsInSpan v enum_values → ⊥) → Found seen items i.name.place
  unfolding marks mark_finding
  outside_found [] before seen i v among none is out = absurd (none_in i among)
  outside_found (MakeEnumItem name value ∷ more) before seen i v among none is out = ⊎_elim
      (λ same.
      let this = as_item component before (MakeEnumItem name value) in
      let given : value ≡ None = none_given value (ap (λ (k : DeclaredItem). k.expr) same ∙ none) in
      let here : known name.place ≡ Some v = ap (λ (k : DeclaredItem). known k.name.place) same ∙ is in
      let o : (not (is_some value) && is_outside (known name.place)) ≡ true =
      ap (λ (x : Option EnumValueTree). not (is_some x) && is_outside (known name.place)) given ∙ (ap is_outside here ∙ outside_so v _ refl out) in
      inl (found_by name value seen (or_right (option_map_or seen (known name.place) false) _ o)
      ∙ ap (λ (p : Place). finding p 12) (ap (λ (x : Option EnumValueTree). place_of_value name.place x) given ∙ ap (λ (k : DeclaredItem). k.name.place) same)))
      (λ later. inr (outside_found more (Some name) (more_seen known seen (MakeEnumItem name value)) i v later none is out))
      (cons_cases (as_item component before (MakeEnumItem name value)) i (items_behind component (Some name) more) among)

  repeated_found : (items : List EnumItemTree) (before : Option Name) (seen : ℤ → Bool) (front more : List DeclaredItem) (later : DeclaredItem) (v : ℤ) → items_behind component before items ≡ front ++ later ∷ more
      → known later.name.place ≡ Some v → (seen v ≡ true) ⊎ ((j : DeclaredItem) × Contains front j × (known j.name.place ≡ Some v)) → Found seen items (item_place later)
  unfolding marks mark_finding
  repeated_found [] before seen [] more later v split is earlier_one = absurd (none_in later (subst (λ ys. Contains ys later) (sym split) (cons_first later more)))
  repeated_found [] before seen (x ∷ front) more later v split is earlier_one = absurd (none_in x (subst (λ ys. Contains ys x) (sym split) (cons_first x (front ++ later ∷ more))))
  repeated_found (MakeEnumItem name value ∷ items) before seen [] more later v split is earlier_one =
      let same : as_item component before (MakeEnumItem name value) ≡ later = first_same split in
      let here : known name.place ≡ Some v = ap (λ (k : DeclaredItem). known k.name.place) same ∙ is in
      let so : seen v ≡ true = ⊎_elim (λ s. s) (λ (j : (j : DeclaredItem) × Contains [] j × (known j.name.place ≡ Some v)). absurd (none_in j.0 j.1)) earlier_one in
      inl (found_by name value seen (or_left (option_map_or seen (known name.place) false) _ (ap (λ (o : Option ℤ). option_map_or seen o false) here ∙ so))
      ∙ ap (λ (p : Place). finding p 12) (place_is name value ∙ ap item_place same))
  repeated_found (MakeEnumItem name value ∷ items) before seen (x ∷ front) more later v split is earlier_one =
      let this = as_item component before (MakeEnumItem name value) in
      inr (repeated_found items (Some name) (more_seen known seen (MakeEnumItem name value)) front more later v (rest_same split) is
      (⊎_elim
      (λ s. inl (or_right (is_value (known name.place) v) (seen v) s))
      (λ (j : (j : DeclaredItem) × Contains (x ∷ front) j × (known j.name.place ≡ Some v)). ⊎_elim
      (λ e. inl (or_left (is_value (known name.place) v) (seen v) (so_value (known name.place) v (ap (λ (k : DeclaredItem). known k.name.place) (first_same split ∙ e) ∙ j.2))))
      (λ there. inr (j.0, there, j.2))
      (cons_cases x j.0 front j.1))
      earlier_one))

  from_breaks : (items : List EnumItemTree) → e.items ≡ items_behind component None items → {p : Place} {rule : ℕ} → EnumBreaks units names e p rule
      → IsIn (mark_finding known) (marks known (λ v. false) items) (record { place = p; rule = rule })
  from_breaks items all (ItemOutside i v among none has out) =
      outside_found items None (λ w. false) i v (subst (λ (is : List DeclaredItem). Contains is i) all among) none ((are i.name.place v).1 has) out
  from_breaks items all (SameValue front more one later v split among has also) =
      repeated_found items None (λ w. false) front more later v (sym all ∙ split) ((are later.name.place v).1 also) (inr (one, among, (are one.name.place v).1 has))

  found_is_least : BeforeGoesOn → (items : List EnumItemTree) → e.items ≡ items_behind component None items → IsLeastOf Breaks (least_of_items known (λ v. false) None items)
  found_is_least on items all =
      subst (IsLeastOf Breaks) (sym (as_marks known (λ v. false) None items))
      (told on (λ f. ⊥ ⊎ IsIn (mark_finding known) (marks known (λ v. false) items) f) Breaks (least_at (mark_finding known) (marks known (λ v. false) items) None)
      (λ f has. ⊎_elim (λ out. absurd out) (λ there. to_breaks items None [] (λ v. false) nothing_seen all f there) has)
      (λ f breaks. inr (from_breaks items all breaks))
      (least_in on (mark_finding known) (marks known (λ v. false) items) (λ f. ⊥) None (λ f out. out)))
    where
      nothing_seen : AreSeen [] (λ v. false)
      nothing_seen = record { back = λ v so. absurd (true≢false (sym so)); all = λ j v among is. absurd (none_in j among) }

module _ (units : List UnitTree) (names : List (List ℕ)) (known : Place → Option ℤ) (are : AreItemValues units names known) (on : BeforeGoesOn) where
  enum_is_least : (component : Option Place) (tree : EnumTree) → IsLeastOf (λ f. EnumBreaks units names (enum_of component tree) f.place f.rule) (enum_least known tree)
  enum_is_least component (MakeEnum word name left first rest right) =
      found_is_least units names known are component (enum_of component (MakeEnum word name left first rest right)) on (first ∷ map next_item rest) refl

  abbrev found_at : EnumSite → Option Finding
  found_at s = enum_least known (view_enum s.node.now)

  pub enums_are_least : (sites : List EnumSite) → map view_enum_site sites ≡ enums units → IsLeastOf (IsEnumBreach units names) (least_at found_at sites None)
  enums_are_least sites are_enums =
      told on (λ f. (s : EnumSite) × Contains sites s × EnumBreaks units names (view_enum_site s) f.place f.rule) (IsEnumBreach units names) (least_at found_at sites None)
      (λ f at. (view_enum_site at.0, subst (λ (es : List DeclaredEnum). Contains es (view_enum_site at.0)) are_enums (in_map sites at.0 at.1), at.2))
      (λ f breach.
      let (s, among, is) = from_map sites breach.0 (subst (λ (es : List DeclaredEnum). Contains es breach.0) (sym are_enums) breach.1) in
      (s, among, subst (λ (d : DeclaredEnum). EnumBreaks units names d f.place f.rule) (sym is) breach.2))
      (least_of_each on found_at (λ s f. EnumBreaks units names (view_enum_site s) f.place f.rule) sites (λ s among. enum_is_least s.component (view_enum s.node.now)))
    where
      in_map : (ss : List EnumSite) (s : EnumSite) → Contains ss s → Contains (map view_enum_site ss) (view_enum_site s)
      in_map [] s among = absurd (none_in s among)
      in_map (t ∷ ss) s among = ⊎_elim
          (λ e. subst (λ (x : EnumSite). Contains (map view_enum_site (t ∷ ss)) (view_enum_site x)) e (cons_first (view_enum_site t) (map view_enum_site ss)))
          (λ more. cons_rest (view_enum_site t) (view_enum_site s) (map view_enum_site ss) (in_map ss s more))
          (cons_cases t s ss among)

      from_map : (ss : List EnumSite) (d : DeclaredEnum) → Contains (map view_enum_site ss) d → (s : EnumSite) × Contains ss s × (view_enum_site s ≡ d)
      from_map [] d among = absurd (none_in d among)
      from_map (t ∷ ss) d among = ⊎_elim
          (λ e. (t, cons_first t ss, e))
          (λ more. let (s, there, is) = from_map ss d more in (s, cons_rest t s ss there, is))
          (cons_cases (view_enum_site t) d (map view_enum_site ss) among)
