-- Values that are kept are those of the items, and where all are settled they are all that items have.
use Rattle.std.proofs.Common.{◌≡◌, ◌↔◌, ℕ, zero, suc, [], ◌∷◌, ◌++◌, refl, sym, subst, ap, ◌∙◌, arith, List, length, set, get_or, true≢false, ◌<◌, ◌⊎◌, inl, inr, ⊎_elim}
use Rattle.std.specs.Prelude.{ℤ, pos, map, Option, Some, None, IsSome, slice_get, slice_index_or, option_and_then}
use Rattle.std.specs.List.{find}
use Rattle.std.proofs.lemmas.List.{get_or-set_same, get_or-set_other}
use Rattle.std.proofs.lemmas.Bool.Decides.{eqb_tells}
use Rattle.pst_base.specs.declared.position.Place.{Place}
use Rattle.pst_ast.specs.declared.leaf.Name.{Name}
use Rattle.pst_ast.specs.ExpressionTree.{ExprTree}
use Rattle.pst_ast.specs.DeclarationTree.{UnitTree}
use Rattle.pst_ast.specs.DeclarationView.{view_unit}
use Rattle.pst_num.specs.Arithmetic.{sum_of}
use Rattle.pst_ast.specs.declared.scope_declaration.Declaration.{Declaration}
use Rattle.pst_ast.specs.declared.referent.Owner.TheVariants.{Nobody}
use Rattle.pst_ast.specs.Sorts.{same_place}
use Rattle.pst_ast.specs.Uses.{environment}
use Rattle.pst_type_rules.specs.Constants.{IsItemValue, First, Next, Given, value_by}
use Rattle.pst_type_rules.specs.Enums.{DeclaredItem, item_at}
use Rattle.pst_type_rules.proofs.OneValue.{item_value_is_one}
use Rattle.pst_places.specs.Numbers.{number_in, number_from}
use Rattle.pst_evaluate.specs.declared.item.ListedItem.{ListedItem}
use Rattle.pst_evaluate.specs.declared.sources.ItemSources.{ItemSources}
use Rattle.pst_evaluate.specs.Known.{item_value, item_value_by, known_by}
use Rattle.pst_evaluate.specs.Listed.{view_each, view_listed}
use Rattle.pst_evaluate.specs.Settled.{AreListed, AreDerived, AreSettled, AreItemValues, HasValueSoFar}
use Rattle.pst_evaluate.proofs.Growing.{Grows, to_grow, from_grow, by_grows}
use Rattle.pst_evaluate.proofs.Numbered.{some_is, none_is_some, numbered_from, HasNumber, has_number}

-- what comes behind a value that there is
and_then_is : (f : ℤ → Option ℤ) (o : Option ℤ) (v : ℤ) → option_and_then f o ≡ Some v → (x : ℤ) × (o ≡ Some x) × (f x ≡ Some v)
and_then_is f None v is = absurd (none_is_some v is)
and_then_is f (Some x) v is = (x, refl, is)

same_or : (n m : ℕ) → (n ≡ m) ⊎ (n ≡ m → ⊥)
same_or n m = ⊎_elim (λ t. inl t.1) (λ f. inr f.1) (eqb_tells n m)

there_is : (o : Option ℤ) → IsSome o → (x : ℤ) × (o ≡ Some x)
there_is None is = absurd (true≢false (sym is))
there_is (Some x) is = (x, refl)

module _ (s : ItemSources) (listed : AreListed s) where
  abbrev units : List UnitTree
  units = map view_unit s.units.now

  abbrev Item : Place → ℤ → Type 0
  Item p v = IsItemValue units s.names.now p v

  -- the item by the number of its place
  record IsThere (p : Place) (n : ℕ) : Type 0 where
    item : ListedItem
    numbered : slice_get s.items.now n ≡ Some item
    declared : item_at units p ≡ Some (view_listed item)

  at_place : (n : ℕ) (p : Place) → number_in s.places.now p ≡ Some n → IsThere p n
  unfolding number_in item_at
  at_place n p is =
      let numbered = numbered_from s.items.now 0 n p (subst (λ (ps : List Place). number_from 0 ps p ≡ Some n) listed.places is) in
      record {
        item = numbered.item;
        numbered = subst (λ (m : ℕ). slice_get s.items.now m ≡ Some numbered.item) (omega (arith, numbered.counted)) numbered.at;
        declared = subst (λ (all : List DeclaredItem). find (λ (j : DeclaredItem). same_place j.name.place p) all ≡ Some (view_listed numbered.item)) listed.items numbered.found;
      }

  module _ (known : Place → Option ℤ) (sound : (p : Place) (w : ℤ) → known p ≡ Some w → Item p w) where
    gives_by : (p : Place) (i : DeclaredItem) (v : ℤ) → item_at units p ≡ Some i → (before : Option Name) (expr : Option ExprTree) → i.before ≡ before → i.expr ≡ expr
        → item_value_by s.index.now s.names.now known i.component before expr ≡ Some v → Item p v
    gives_by p i v at before (Some e) b x is =
        Given p i e known v at x sound (subst (λ (ds : List Declaration). value_by ds s.names.now known (environment i.component Nobody) e ≡ Some v) listed.declared is)
    gives_by p i v at None None b x is = subst (λ (w : ℤ). Item p w) (some_is (pos 0) v is) (First p i at x b)
    gives_by p i v at (Some name) None b x is =
        let so = and_then_is (λ w. sum_of w (pos 1)) (known name.place) v is in
        Next p i name so.0 v at x b (sound name.place so.0 so.1) so.2

    -- what values that items have give an item, it has
    pub gives : (p : Place) (i : DeclaredItem) (v : ℤ) → item_at units p ≡ Some i → item_value s.index.now s.names.now known i ≡ Some v → Item p v
    gives p i v at is = gives_by p i v at i.before i.expr refl refl is

  -- where none is kept
  none_there : (values : List (Option ℤ)) → ((n : ℕ) → slice_index_or values n None ≡ None) → (p : Place) (v : ℤ) (o : Option ℕ) → option_and_then (λ (n : ℕ). slice_index_or values n None) o ≡ Some v → Item p v
  none_there values none p v None is = absurd (none_is_some v is)
  none_there values none p v (Some n) is = absurd (none_is_some v (sym (none n) ∙ is))

  pub none_derived : (values : List (Option ℤ)) → ((n : ℕ) → slice_index_or values n None ≡ None) → AreDerived s values
  none_derived values none p v is = none_there values none p v (number_in s.places.now p) is

  -- a value that is kept at one number more
  module _ (values : List (Option ℤ)) (derived : AreDerived s values) (at : ℕ) (w : ℤ) (within : at < length values) (value : HasValueSoFar s values at w) where
    at_number : (p : Place) (v : ℤ) (o : Option ℕ) → number_in s.places.now p ≡ o → option_and_then (λ (n : ℕ). slice_index_or (set values at (Some w)) n None) o ≡ Some v → Item p v
    at_number p v None e is = absurd (none_is_some v is)
    at_number p v (Some n) e is = ⊎_elim
        (λ same.
        let there = at_place n p e in
        let kept : Some w ≡ Some v = sym (get_or-set_same values at (Some w) None within) ∙ (ap (λ (m : ℕ). get_or (set values at (Some w)) m None) (sym same) ∙ is) in
        subst (λ (z : ℤ). Item p z) (some_is w v kept)
        (gives (λ q. known_by s.places.now values q) derived p (view_listed there.item) w there.declared (value there.item (subst (λ (m : ℕ). slice_get s.items.now m ≡ Some there.item) same there.numbered))))
        (λ other.
        derived p v
        (ap (λ (o : Option ℕ). option_and_then (λ (m : ℕ). slice_index_or values m None) o) e
        ∙ (sym (get_or-set_other values at n (Some w) None other) ∙ is)))
        (same_or n at)

    pub keeps : AreDerived s (set values at (Some w))
    keeps p v is = at_number p v (number_in s.places.now p) refl is

  module _ (values : List (Option ℤ)) (derived : AreDerived s values) (settled : AreSettled s values) where
    abbrev known : Place → Option ℤ
    known p = known_by s.places.now values p

    kept : (p : Place) (i : DeclaredItem) (v : ℤ) → item_at units p ≡ Some i → item_value s.index.now s.names.now known i ≡ Some v → Item p v → known p ≡ Some v
    unfolding number_in item_at
    kept p i v at is has =
        let n : HasNumber s.items.now 0 p i = has_number s.items.now 0 p i (subst (λ (all : List DeclaredItem). find (λ (j : DeclaredItem). same_place j.name.place p) all ≡ Some i) (sym listed.items) at) in
        let number : number_in s.places.now p ≡ Some n.number = subst (λ (ps : List Place). number_from 0 ps p ≡ Some n.number) (sym listed.places) (n.counted ∙ ap Some (omega arith)) in
        let found : known p ≡ slice_index_or values n.number None = ap (λ (o : Option ℕ). option_and_then (λ (m : ℕ). slice_index_or values m None) o) number in
        let value = there_is (slice_index_or values n.number None) (settled n.number n.item v n.at (subst (λ (j : DeclaredItem). item_value s.index.now s.names.now known j ≡ Some v) (sym n.viewed) is)) in
        found ∙ (value.1 ∙ ap Some (item_value_is_one units s.names.now p value.0 v (derived p value.0 (found ∙ value.1)) has))

    -- what an item has is kept
    pub complete : (p : Place) (v : ℤ) → Item p v → known p ≡ Some v
    complete p v (First _ i at none before) =
        kept p i (pos 0) at
        (subst (λ (x : Option ExprTree). item_value_by s.index.now s.names.now known i.component i.before x ≡ Some (pos 0)) (sym none)
        (subst (λ (b : Option Name). item_value_by s.index.now s.names.now known i.component b None ≡ Some (pos 0)) (sym before) refl))
        (First p i at none before)
    complete p v (Next _ i b w next at none before has sum) =
        kept p i next at
        (subst (λ (x : Option ExprTree). item_value_by s.index.now s.names.now known i.component i.before x ≡ Some next) (sym none)
        (subst (λ (o : Option Name). item_value_by s.index.now s.names.now known i.component o None ≡ Some next) (sym before)
        (ap (λ (o : Option ℤ). option_and_then (λ (x : ℤ). sum_of x (pos 1)) o) (complete b.place w has) ∙ sum)))
        (Next p i b w next at none before has sum)
    complete p v (Given _ i e other w at given items value) =
        let here : value_by s.index.now s.names.now other (environment i.component Nobody) e ≡ Some w = subst (λ (ds : List Declaration). value_by ds s.names.now other (environment i.component Nobody) e ≡ Some w) (sym listed.declared) value in
        let grown : value_by s.index.now s.names.now known (environment i.component Nobody) e ≡ Some w =
        from_grow _ _ w (by_grows s.index.now s.names.now other known (environment i.component Nobody) e (λ q. to_grow (other q) (known q) (λ x is. complete q x (items q x is)))) here in
        kept p i w at (subst (λ (x : Option ExprTree). item_value_by s.index.now s.names.now known i.component i.before x ≡ Some w) (sym given) grown) (Given p i e other w at given items value)

    pub are_item_values : AreItemValues units s.names.now known
    are_item_values p v = (derived p v, complete p v)

-- none behind nones
pub one_more_none : (values : List (Option ℤ)) → ((n : ℕ) → slice_index_or values n None ≡ None) → (n : ℕ) → slice_index_or (values ++ None ∷ []) n None ≡ None
one_more_none [] none zero = refl
one_more_none [] none (suc n) = refl
one_more_none (x ∷ values) none zero = none 0
one_more_none (x ∷ values) none (suc n) = one_more_none values (λ m. none (suc m)) n
