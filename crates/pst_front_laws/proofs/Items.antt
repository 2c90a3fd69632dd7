-- The value that is found for an enum item is the one that it has by the rules.
use Rattle.std.proofs.Common.{◌≡◌, ◌↔◌, ℕ, inl, inr, refl, sym, subst, ap, ◌∙◌}
use Rattle.std.specs.Prelude.{ℤ, pos, List, [], ◌∷◌, ◌++◌, map, Option, Some, None, option_and_then}
use Rattle.std.specs.List.{find, flat_map}
use Rattle.std.specs.Option.{option_map, option_map_or}
use Rattle.std.proofs.lemmas.Option.{none-some, same_Some}
use Rattle.pst_base.specs.declared.position.Place.{Place}
use Rattle.pst_ast.specs.declared.leaf.Name.{Name}
use Rattle.pst_ast.specs.ExpressionTree.{ExprTree}
use Rattle.pst_ast.specs.DeclarationTree.{UnitTree, EnumItemTree, MakeEnumItem, EnumValueTree, MakeEnumValue}
use Rattle.pst_num.specs.Arithmetic.{sum_of}
use Rattle.pst_ast.specs.declared.referent.Owner.TheVariants.{Nobody}
use Rattle.pst_ast.specs.Declarations.{declarations}
use Rattle.pst_ast.specs.Sorts.{same_place}
use Rattle.pst_ast.specs.Uses.{Use, Judges, EnumValue, enum_value_uses, uses, environment}
use Rattle.pst_type_rules.specs.Constants.{IsItemValue, First, Next, Given}
use Rattle.pst_type_rules.specs.ConstantsLaws.{ExpressionsHaveOneValue}
use Rattle.pst_type_rules.specs.Enums.{DeclaredItem, DeclaredEnum, expr_in, items_behind, enums, item_at}
use Rattle.pst_evaluate.specs.Known as settled
use Rattle.pst_evaluate.specs.Settled.{AreItemValues}
use Rattle.pst_terms.specs.Sources.{Sources, value_of, next_value, item_values, all_item_values, item_value}
use Rattle.pst_front_laws.specs.ValueLaws.{AreValued, StandApart}
use Rattle.pst_front_laws.proofs.Elements.{In, in_get, in_map, to_map, in_flat_map, to_flat_map, found_there, to_contains}
use Rattle.pst_front_laws.proofs.Growing.{to_grow, from_grow, by_grows}
use Rattle.pst_front_laws.proofs.Settled.{same_places, item_there, gives, and_then_gave}
use Rattle.pst_front_laws.proofs.Valued.{valued, found_value}
use Rattle.pst_front_laws.proofs.Enums.{item_place, places, map_both, AreApart, items_apart, find_apart, enum_stands}

module _ (s : Sources) (are : AreValued s) (apart : StandApart (declarations s.units)) where
  abbrev all : List DeclaredItem
  all = flat_map (λ e. e.items) (enums s.units)

  -- ---- the values that are listed

  values_places : (next : Option ℤ) (xs : List DeclaredItem) → map (λ (x : Place × Option ℤ). x.0) (item_values s next xs) ≡ map item_place xs
  values_places next [] = refl
  values_places next (i ∷ more) = ap (λ (ps : List Place). i.name.place ∷ ps) (values_places (next_value (option_map_or (value_of s) i.expr next)) more)

  pairs_places : (es : List DeclaredEnum) → map (λ (x : Place × Option ℤ). x.0) (flat_map (λ e. item_values s (Some (pos 0)) e.items) es) ≡ places es
  pairs_places [] = refl
  pairs_places (e ∷ es) =
      map_both (λ (x : Place × Option ℤ). x.0) (item_values s (Some (pos 0)) e.items) (flat_map (λ e. item_values s (Some (pos 0)) e.items) es)
      ∙ ((λ i. values_places (Some (pos 0)) e.items i ++ pairs_places es i) ∙ sym (map_both item_place e.items (flat_map (λ e. e.items) es)))

  pair_found : (x : Place × Option ℤ) → In x (all_item_values s) → item_value s x.0 ≡ x.1
  unfolding item_value
  pair_found x there =
      ap (option_and_then (λ (y : Place × Option ℤ). y.1))
      (find_apart (λ (y : Place × Option ℤ). y.0) (all_item_values s) (subst AreApart (sym (pairs_places (enums s.units))) (items_apart s.units apart)) x there)

  item_found : (i : DeclaredItem) → In i all → item_at s.units i.name.place ≡ Some i
  unfolding item_at
  item_found i there = find_apart item_place all (items_apart s.units apart) i there

  -- ---- what is found for an item, by what is found for the one before it

  abbrev start : Option Name → Option ℤ
  start None = Some (pos 0)
  start (Some b) = next_value (item_value s b.place)

  record IsRight (i : DeclaredItem) : Type 0 where
    equation : item_value s i.name.place ≡ option_map_or (value_of s) i.expr (start i.before)
    used : (x : ExprTree) → i.expr ≡ Some x → In (Judges (environment i.component Nobody) EnumValue x) (uses s.units)

  expr_used : (component : Option Place) (name : Name) (value : Option EnumValueTree) → ((u : Use) → In u (enum_value_uses component (MakeEnumItem name value)) → In u (uses s.units))
      → (x : ExprTree) → option_map expr_in value ≡ Some x → In (Judges (environment component Nobody) EnumValue x) (uses s.units)
  expr_used component name None used x e = absurd (none-some x e)
  expr_used component name (Some (MakeEnumValue equal expr)) used x e = used (Judges (environment component Nobody) EnumValue x) (inl (ap (Judges (environment component Nobody) EnumValue) (same_Some expr x e)))

  behind_right : (component : Option Place) (before : Option Name) (trees : List EnumItemTree) (next : Option ℤ) → next ≡ start before
      → ((x : Place × Option ℤ) → In x (item_values s next (items_behind component before trees)) → item_value s x.0 ≡ x.1)
      → ((t : EnumItemTree) → In t trees → (u : Use) → In u (enum_value_uses component t) → In u (uses s.units)) → (i : DeclaredItem) → In i (items_behind component before trees) → IsRight i
  behind_right component before [] next at pairs used i there = absurd there
  behind_right component before (MakeEnumItem name value ∷ more) next at pairs used i (inl same) =
      subst IsRight same
      (record {
        equation = pairs (name.place, option_map_or (value_of s) (option_map expr_in value) next) (inl refl) ∙ ap (option_map_or (value_of s) (option_map expr_in value)) at;
        used = expr_used component name value (used (MakeEnumItem name value) (inl refl));
      })
  behind_right component before (MakeEnumItem name value ∷ more) next at pairs used i (inr there) =
      behind_right component (Some name) more (next_value (option_map_or (value_of s) (option_map expr_in value) next))
      (ap next_value (sym (pairs (name.place, option_map_or (value_of s) (option_map expr_in value) next) (inl refl)))) (λ x has. pairs x (inr has)) (λ t has. used t (inr has)) i there

  enum_right : (e : DeclaredEnum) → In e (enums s.units) → (i : DeclaredItem) → In i e.items → IsRight i
  enum_right e among i there =
      let st = enum_stands s.units e among in
      behind_right st.component None st.trees (Some (pos 0)) refl
      (λ x has.
      pair_found x
      (to_flat_map (λ e. item_values s (Some (pos 0)) e.items) (enums s.units) e x among (subst (λ (xs : List DeclaredItem). In x (item_values s (Some (pos 0)) xs)) (sym st.items) has)))
      st.used i (subst (In i) st.items there)

  right : (i : DeclaredItem) → In i all → IsRight i
  right i there = let r = in_flat_map (λ e. e.items) (enums s.units) i there in enum_right r.0 r.1 i r.2

  -- ---- what is found is a value by the rules

  abbrev Sound : Place → Type 0
  Sound p = (v : ℤ) → item_value s p ≡ Some v → IsItemValue s.units s.names p v

  sound_by : (i : DeclaredItem) → In i all → (expr : Option ExprTree) → i.expr ≡ expr → (before : Option Name) → i.before ≡ before → ((x : ExprTree) → expr ≡ Some x → In (Judges (environment i.component Nobody) EnumValue x) (uses s.units))
      → ((b : Name) → before ≡ Some b → Sound b.place) → (v : ℤ) → option_map_or (value_of s) expr (start before) ≡ Some v → IsItemValue s.units s.names i.name.place v
  sound_by i there (Some x) is before behind used on v e =
      let c = found_value s are (environment i.component Nobody) EnumValue x (to_contains (uses s.units) (Judges (environment i.component Nobody) EnumValue x) (used x refl)) refl v e in
      Given i.name.place i x c.value.known v (item_found i there) is c.value.items c.value.value
  sound_by i there None is None behind used on v e = subst (IsItemValue s.units s.names i.name.place) (same_Some (pos 0) v e) (First i.name.place i (item_found i there) is behind)
  sound_by i there None is (Some b) behind used on v e =
      let w = and_then_gave s.units s.names (λ n. sum_of n (pos 1)) (item_value s b.place) v e in Next i.name.place i b w.0 v (item_found i there) is behind (on b refl w.0 w.1) w.2

  sound_one : (i : DeclaredItem) → In i all → ((b : Name) → i.before ≡ Some b → Sound b.place) → Sound i.name.place
  sound_one i there on v e = sound_by i there i.expr refl i.before refl (right i there).used on v (sym (right i there).equation ∙ e)

  behind_sound : (component : Option Place) (before : Option Name) (trees : List EnumItemTree) → ((i : DeclaredItem) → In i (items_behind component before trees) → In i all) → ((b : Name) → before ≡ Some b → Sound b.place)
      → (i : DeclaredItem) → In i (items_behind component before trees) → Sound i.name.place
  behind_sound component before [] among on i there = absurd there
  behind_sound component before (MakeEnumItem name value ∷ more) among on i (inl same) =
      subst (λ (j : DeclaredItem). Sound j.name.place) same (sound_one (record { component = component; name = name; before = before; expr = option_map expr_in value }) (among _ (inl refl)) on)
  behind_sound component before (MakeEnumItem name value ∷ more) among on i (inr there) =
      behind_sound component (Some name) more (λ j has. among j (inr has))
      (λ b e. subst (λ (n : Name). Sound n.place) (same_Some name b e) (sound_one (record { component = component; name = name; before = before; expr = option_map expr_in value }) (among _ (inl refl)) on))
      i there

  sound : (i : DeclaredItem) → In i all → Sound i.name.place
  sound i there =
      let r = in_flat_map (λ e. e.items) (enums s.units) i there in
      let st = enum_stands s.units r.0 r.1 in
      behind_sound st.component None st.trees (λ j has. to_flat_map (λ e. e.items) (enums s.units) r.0 j r.1 (subst (In j) (sym st.items) has)) (λ b e. absurd (none-some b e)) i (subst (In i) st.items r.2)

  has_value : (p : Place) (v : ℤ) → item_value s p ≡ Some v → IsItemValue s.units s.names p v
  unfolding item_value
  has_value p v e =
      let x = and_then_gave s.units s.names (λ (x : Place × Option ℤ). x.1) (find (λ (x : Place × Option ℤ). same_place x.0 p) (all_item_values s)) v e in
      let f = found_there (λ (x : Place × Option ℤ). same_place x.0 p) (all_item_values s) x.0 x.1 in
      let listed = to_map (λ (x : Place × Option ℤ). x.0) (all_item_values s) x.0 (in_get (all_item_values s) f.0.0 x.0 f.0.1) in
      let i = in_map item_place all x.0.0 (subst (In x.0.0) (pairs_places (enums s.units)) listed) in
      let same : i.0.name.place ≡ p = i.2 ∙ same_places x.0.0 p f.1 in
      subst (λ (q : Place). IsItemValue s.units s.names q v) same (sound i.0 i.1 v (ap (item_value s) same ∙ e))

  -- ---- a value by the rules is found

  module _ (one_value : ExpressionsHaveOneValue) where
    is_found : (p : Place) (v : ℤ) → IsItemValue s.units s.names p v → item_value s p ≡ Some v
    is_found p v (First _ i at none before) =
        let there = item_there s.units s.names p i at in
        ap (item_value s) (sym there.1) ∙ ((right i there.0).equation ∙ (λ j. option_map_or (value_of s) (none j) (start (before j))))
    is_found p v (Next _ i b w next at none before has sum) =
        let there = item_there s.units s.names p i at in
        ap (item_value s) (sym there.1)
        ∙ ((right i there.0).equation ∙ ((λ j. option_map_or (value_of s) (none j) (start (before j))) ∙ (ap next_value (is_found b.place w has) ∙ sum)))
    is_found p v (Given _ i x known w at given items value) =
        let there = item_there s.units s.names p i at in
        let c = valued s are (environment i.component Nobody) EnumValue x (to_contains (uses s.units) (Judges (environment i.component Nobody) EnumValue x) ((right i there.0).used x given)) refl in
        let same : c.0 ≡ w = one_value s.units s.names (environment i.component Nobody) x c.0 w c.1.value (record { known = known; items = items; value = value }) in
        ap (item_value s) (sym there.1)
        ∙ ((right i there.0).equation ∙ (ap (λ (o : Option ExprTree). option_map_or (value_of s) o (start i.before)) given ∙ (c.2 ∙ ap (λ (z : ℤ). Some z) same)))

pub item_values_are_found : ExpressionsHaveOneValue → (s : Sources) (place : Place) (v : ℤ) → AreValued s → StandApart (declarations s.units) → (item_value s place ≡ Some v) ↔ IsItemValue s.units s.names place v
item_values_are_found one_value s place v are apart = (has_value s are apart place v, is_found s are apart one_value place v)

-- ---- by the values that items have

module _ (units : List UnitTree) (names : List (List ℕ)) (known : Place → Option ℤ) (are : AreItemValues units names known) where
  same_item : (p : Place) (i j : DeclaredItem) (v : ℤ) → item_at units p ≡ Some i → item_at units p ≡ Some j → settled.item_value (declarations units) names known j ≡ Some v → settled.item_value (declarations units) names known i ≡ Some v
  same_item p i j v at also e = subst (λ (k : DeclaredItem). settled.item_value (declarations units) names known k ≡ Some v) (same_Some j i (sym also ∙ at)) e

  is_settled : (p : Place) (i : DeclaredItem) (v : ℤ) → item_at units p ≡ Some i → IsItemValue units names p v → settled.item_value (declarations units) names known i ≡ Some v
  is_settled p i v at (First _ j also none before) = same_item p i j (pos 0) at also (λ k. settled.item_value_by (declarations units) names known j.component (before k) (none k))
  is_settled p i v at (Next _ j b w next also none before has sum) =
      same_item p i j next at also
      ((λ k. settled.item_value_by (declarations units) names known j.component (before k) (none k)) ∙ (ap (λ (o : Option ℤ). option_and_then (λ (x : ℤ). sum_of x (pos 1)) o) ((are b.place w).1 has) ∙ sum))
  is_settled p i v at (Given _ j e other w also given items value) =
      same_item p i j w at also
      (ap (λ (x : Option ExprTree). settled.item_value_by (declarations units) names known j.component j.before x) given
      ∙ from_grow _ _ w (by_grows (declarations units) names other known (environment j.component Nobody) e (λ q. to_grow (other q) (known q) (λ x is. (are q x).1 (items q x is)))) value)

pub item_values_are_settled : (units : List UnitTree) (names : List (List ℕ)) (known : Place → Option ℤ) (place : Place) (item : DeclaredItem) (v : ℤ) → AreItemValues units names known → item_at units place ≡ Some item
    → (settled.item_value (declarations units) names known item ≡ Some v) ↔ IsItemValue units names place v
item_values_are_settled units names known place item v are at = (gives units names known (λ p w e. (are p w).0 e) place item v at, is_settled units names known are place item v at)
