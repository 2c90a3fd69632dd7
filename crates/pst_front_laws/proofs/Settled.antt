-- Each enum item has a value that is found in finitely many rounds, or has none; so for each expression.
use Rattle.std.proofs.Common.{◌≡◌, ◌⊎◌, ◌<◌, ◌≤◌, ◌+◌, ℕ, zero, suc, refl, sym, subst, ap, ◌∙◌, arith, inl, inr, ⊎_elim}
use Rattle.std.specs.Prelude.{ℤ, pos, List, [], ◌∷◌, length, Bool, true, false, ◌&&◌, nat_eq, Option, Some, None, is_some, option_and_then}
use Rattle.std.specs.List.{flat_map}
use Rattle.std.proofs.lemmas.Option.{none-some, same_Some}
use Rattle.std.proofs.lemmas.Bool.{eqb-true, false≢true, and_parts, cases_lt}
use Rattle.pst_base.specs.declared.position.Place.{Place}
use Rattle.pst_ast.specs.declared.leaf.Name.{Name}
use Rattle.pst_ast.specs.ExpressionTree.{ExprTree}
use Rattle.pst_ast.specs.DeclarationTree.{UnitTree}
use Rattle.pst_num.specs.Arithmetic.{sum_of}
use Rattle.pst_ast.specs.declared.scope_declaration.Declaration.{Declaration}
use Rattle.pst_ast.specs.declared.environment.Environment.{Environment}
use Rattle.pst_ast.specs.declared.referent.Owner.TheVariants.{Nobody}
use Rattle.pst_ast.specs.Declarations.{declarations}
use Rattle.pst_ast.specs.Sorts.{same_place}
use Rattle.pst_ast.specs.Uses.{Use, expr_uses, environment}
use Rattle.pst_type_rules.specs.Constants.{item_of_use, value_by, IsItemValue, First, Next, Given, IsConstant}
use Rattle.pst_type_rules.specs.Enums.{DeclaredItem, enums, item_at}
use Rattle.pst_evaluate.specs.Known.{item_value, item_value_by}
use Rattle.pst_evaluate.specs.Settled.{AreItemValues}
use Rattle.pst_front_laws.proofs.Elements.{In, in_get, found_there, from_contains, to_contains}
use Rattle.pst_front_laws.proofs.Growing.{Grows, to_grow, from_grow, then_grows, by_grows}

-- two places that are the same
pub same_places : (p q : Place) → same_place p q ≡ true → p ≡ q
same_places p q e =
    let a = and_parts (nat_eq p.file q.file) (nat_eq p.line q.line && nat_eq p.column q.column) e in
    let b = and_parts (nat_eq p.line q.line) (nat_eq p.column q.column) a.1 in
    λ i. record { file = eqb-true p.file q.file a.0 i; line = eqb-true p.line q.line b.0 i; column = eqb-true p.column q.column b.1 i }

module _ (units : List UnitTree) (names : List (List ℕ)) where
  abbrev ds : List Declaration
  ds = declarations units

  abbrev all : List DeclaredItem
  all = flat_map (λ e. e.items) (enums units)

  -- an item at a place is among all, and its name stands there
  pub item_there : (p : Place) (i : DeclaredItem) → item_at units p ≡ Some i → In i all × (i.name.place ≡ p)
  unfolding item_at
  item_there p i e = let r = found_there (λ i. same_place i.name.place p) all i e in (in_get all r.0.0 i r.0.1, same_places i.name.place p r.1)

  -- ---- one round

  abbrev step : (Place → Option ℤ) → Place → Option ℤ
  step known p = option_and_then (item_value ds names known) (item_at units p)

  abbrev round : ℕ → Place → Option ℤ
  round zero p = None
  round (suc n) p = step (round n) p

  pub and_then_gave : {A B : Type 0} (f : A → Option B) (o : Option A) (y : B) → option_and_then f o ≡ Some y → (x : A) × (o ≡ Some x) × (f x ≡ Some y)
  and_then_gave f None y e = absurd (none-some y e)
  and_then_gave f (Some x) y e = (x, refl, e)

  module _ (known : Place → Option ℤ) (sound : (p : Place) (w : ℤ) → known p ≡ Some w → IsItemValue units names p w) where
    gives_by : (p : Place) (i : DeclaredItem) (v : ℤ) → item_at units p ≡ Some i → (before : Option Name) (expr : Option ExprTree) → i.before ≡ before → i.expr ≡ expr
        → item_value_by ds names known i.component before expr ≡ Some v → IsItemValue units names p v
    gives_by p i v at before (Some e) b x is = Given p i e known v at x sound is
    gives_by p i v at None None b x is = subst (IsItemValue units names p) (same_Some (pos 0) v is) (First p i at x b)
    gives_by p i v at (Some name) None b x is =
        let so = and_then_gave (λ w. sum_of w (pos 1)) (known name.place) v is in
        Next p i name so.0 v at x b (sound name.place so.0 so.1) so.2

    -- what values that items have give an item, it has
    pub gives : (p : Place) (i : DeclaredItem) (v : ℤ) → item_at units p ≡ Some i → item_value ds names known i ≡ Some v → IsItemValue units names p v
    gives p i v at is = gives_by p i v at i.before i.expr refl refl is

    step_sound : (p : Place) (v : ℤ) → step known p ≡ Some v → IsItemValue units names p v
    step_sound p v e = let r = and_then_gave (item_value ds names known) (item_at units p) v e in gives p r.0 v r.1 r.2

  round_sound : (n : ℕ) (p : Place) (v : ℤ) → round n p ≡ Some v → IsItemValue units names p v
  round_sound zero p v e = absurd (none-some v e)
  round_sound (suc n) p v e = step_sound (round n) (round_sound n) p v e

  -- ---- rounds keep what was found

  module _ (f g : Place → Option ℤ) (h : (p : Place) → Grows (f p) (g p)) where
    value_by_grows : (component : Option Place) (before : Option Name) (expr : Option ExprTree) → Grows (item_value_by ds names f component before expr) (item_value_by ds names g component before expr)
    value_by_grows component before (Some e) = by_grows ds names f g (environment component Nobody) e h
    value_by_grows component None None = refl
    value_by_grows component (Some b) None = then_grows (λ v. sum_of v (pos 1)) (f b.place) (g b.place) (h b.place)

    pub item_value_grows : (i : DeclaredItem) → Grows (item_value ds names f i) (item_value ds names g i)
    item_value_grows i = value_by_grows i.component i.before i.expr

    step_grows : (p : Place) → Grows (step f p) (step g p)
    step_grows p = by (item_at units p)
      where
        by : (o : Option DeclaredItem) → Grows (option_and_then (item_value ds names f) o) (option_and_then (item_value ds names g) o)
        by None = tt
        by (Some i) = item_value_grows i

  round_grows : (n : ℕ) (p : Place) → Grows (round n p) (round (suc n) p)
  round_grows zero p = tt
  round_grows (suc n) p = step_grows (round n) (round (suc n)) (round_grows n) p

  -- ---- the rounds end

  abbrev one_if : Option ℤ → ℕ
  one_if None = 0
  one_if (Some v) = 1

  abbrev count : (Place → Option ℤ) → List DeclaredItem → ℕ
  count f [] = 0
  count f (i ∷ more) = one_if (f i.name.place) + count f more

  one_at_most : (o : Option ℤ) → one_if o ≤ 1
  one_at_most None = omega arith
  one_at_most (Some v) = omega arith

  count_within : (f : Place → Option ℤ) (xs : List DeclaredItem) → count f xs ≤ length xs
  count_within f [] = omega arith
  count_within f (i ∷ more) = omega (arith, one_at_most (f i.name.place), count_within f more)

  one_grows : (a b : Option ℤ) → Grows a b → one_if a ≤ one_if b
  one_grows None b h = omega arith
  one_grows (Some x) b h = subst (λ (o : Option ℤ). 1 ≤ one_if o) (sym h) (omega arith)

  one_same : (a b : Option ℤ) → Grows a b → one_if a ≡ one_if b → a ≡ b
  one_same None None h e = refl
  one_same None (Some x) h e = let never : ⊥ = omega (arith, e) in absurd never
  one_same (Some x) b h e = sym h

  module _ (f g : Place → Option ℤ) (h : (p : Place) → Grows (f p) (g p)) where
    count_grows : (xs : List DeclaredItem) → count f xs ≤ count g xs
    count_grows [] = omega arith
    count_grows (i ∷ more) = omega (arith, one_grows (f i.name.place) (g i.name.place) (h i.name.place), count_grows more)

    count_same : (xs : List DeclaredItem) → count f xs ≡ count g xs → (i : DeclaredItem) → In i xs → f i.name.place ≡ g i.name.place
    count_same [] e i there = absurd there
    count_same (x ∷ more) e i (inl same) =
        let one : one_if (f x.name.place) ≡ one_if (g x.name.place) = omega (arith, e, one_grows (f x.name.place) (g x.name.place) (h x.name.place), count_grows more) in
        subst (λ (j : DeclaredItem). f j.name.place ≡ g j.name.place) same (one_same (f x.name.place) (g x.name.place) (h x.name.place) one)
    count_same (x ∷ more) e i (inr there) =
        count_same more (omega (arith, e, one_grows (f x.name.place) (g x.name.place) (h x.name.place), count_grows more)) i there

  abbrev IsLast : ℕ → Type 0
  IsLast n = count (round n) all ≡ count (round (suc n)) all

  last_by : (n : ℕ) → ((m : ℕ) × IsLast m) ⊎ (n ≤ count (round n) all)
  last_by zero = inr (omega arith)
  last_by (suc n) = ⊎_elim (λ m. inl m) (λ few. more few (cases_lt (count (round n) all) (count (round (suc n)) all))) (last_by n)
    where
      more : n ≤ count (round n) all → (count (round n) all < count (round (suc n)) all) ⊎ (count (round (suc n)) all ≤ count (round n) all) → ((m : ℕ) × IsLast m) ⊎ (suc n ≤ count (round (suc n)) all)
      more few (inl less) = inr (omega (arith, few, less))
      more few (inr none) = inl (n, omega (arith, none, count_grows (round n) (round (suc n)) (round_grows n) all))

  last : (m : ℕ) × IsLast m
  last = ⊎_elim (λ m. m) (λ few. absurd (omega (arith, few, count_within (round (suc (length all))) all))) (last_by (suc (length all)))

  -- what is found in the end
  pub known : Place → Option ℤ
  known p = round last.0 p

  pub known_sound : (p : Place) (v : ℤ) → known p ≡ Some v → IsItemValue units names p v
  unfolding known
  known_sound p v e = round_sound last.0 p v e

  known_settled : (p : Place) (i : DeclaredItem) → item_at units p ≡ Some i → known p ≡ item_value ds names known i
  unfolding known
  known_settled p i at =
      let there = item_there p i at in
      subst (λ (q : Place). round last.0 q ≡ round (suc last.0) q) there.1 (count_same (round last.0) (round (suc last.0)) (round_grows last.0) all last.1 i there.0)
      ∙ ap (option_and_then (item_value ds names (round last.0))) at

  -- ---- all that items have is found

  module _ (found : Place → Option ℤ) (settled : (p : Place) (i : DeclaredItem) → item_at units p ≡ Some i → found p ≡ item_value ds names found i) where
    pub complete : (p : Place) (v : ℤ) → IsItemValue units names p v → found p ≡ Some v
    complete p v (First _ i at none before) = settled p i at ∙ (λ j. item_value_by ds names found i.component (before j) (none j))
    complete p v (Next _ i b w next at none before has sum) =
        settled p i at ∙ ((λ j. item_value_by ds names found i.component (before j) (none j)) ∙ (ap (λ (o : Option ℤ). option_and_then (λ (x : ℤ). sum_of x (pos 1)) o) (complete b.place w has) ∙ sum))
    complete p v (Given _ i e other w at given items value) =
        settled p i at
        ∙ (ap (λ (x : Option ExprTree). item_value_by ds names found i.component i.before x) given
        ∙ from_grow _ _ w (by_grows ds names other found (environment i.component Nobody) e (λ q. to_grow (other q) (found q) (λ x is. complete q x (items q x is)))) value)

  pub are_known : AreItemValues units names known
  are_known p v = (known_sound p v, complete known known_settled p v)

  -- ---- expressions

  -- all of some uses are items, or one isn't
  abbrev Judged : List Use → Type 0
  Judged us = ((u : Use) → In u us → is_some (item_of_use ds names u) ≡ true) ⊎ ((u : Use) × In u us × (is_some (item_of_use ds names u) ≡ false))

  judged_by : (x : Use) (more : List Use) → Judged more → (b : Bool) → is_some (item_of_use ds names x) ≡ b → Judged (x ∷ more)
  judged_by x more rest false e = inr (x, inl refl, e)
  judged_by x more (inl h) true e = inl each
    where
      each : (u : Use) → In u (x ∷ more) → is_some (item_of_use ds names u) ≡ true
      each u (inl same) = subst (λ (y : Use). is_some (item_of_use ds names y) ≡ true) same e
      each u (inr there) = h u there
  judged_by x more (inr r) true e = inr (r.0, inr r.1, r.2)

  judged : (us : List Use) → Judged us
  judged [] = inl (λ u there. absurd there)
  judged (x ∷ more) = judged_by x more (judged more) (is_some (item_of_use ds names x)) refl

  -- an expression has a value as a constant, or none
  pub constant_or : (at : Environment) (expr : ExprTree) → ((v : ℤ) × IsConstant units names at expr v) ⊎ ((v : ℤ) → IsConstant units names at expr v → ⊥)
  constant_or at expr = by (judged (expr_uses at expr)) (value_by ds names known at expr) refl
    where
      by : Judged (expr_uses at expr) → (o : Option ℤ) → value_by ds names known at expr ≡ o → ((v : ℤ) × IsConstant units names at expr v) ⊎ ((v : ℤ) → IsConstant units names at expr v → ⊥)
      by (inr u) o e = inr (λ v c. false≢true (sym u.2 ∙ c.items u.0 (to_contains (expr_uses at expr) u.0 u.1)))
      by (inl each) None e = inr (λ v c. none-some v (sym e ∙ from_grow _ _ v (by_grows ds names c.value.known known at expr (λ q. to_grow (c.value.known q) (known q) (λ x is. (are_known q x).1 (c.value.items q x is)))) c.value.value))
      by (inl each) (Some v) e =
          inl (v, record { items = λ u among. each u (from_contains (expr_uses at expr) u among.0 among.1 among.2); value = record { known = known; items = known_sound; value = e } })
