-- What the rewritings of constraints mean.
use Rattle.std.proofs.Common.{◌≡◌, ◌<◌, refl, sym, subst, ap, arith, ◌∙◌, true≢false}
use Rattle.std.specs.Prelude.{◌↔◌, ℕ, zero, suc, ◌+◌, ℤ, pos, Bool, true, false, not, List, [], ◌∷◌, ◌++◌, map, Option, Some, None, if◌then◌else◌}
use Rattle.std.specs.List.{flat_map}
use Rattle.std.specs.Option.{option_map, option_and_then, unwrap_or}
use Rattle.std.specs.Ordering.{int_eq}
use Rattle.std.proofs.lemmas.Bool.Decides.{Decides-int_eq}
use Rattle.pst_expr.specs.declared.tree.UnaryOp.TheVariants.{Not}
use Rattle.pst_expr.specs.declared.tree.BinaryOp.TheVariants.{NotEqual, Implies}
use Rattle.pst_expr.specs.Value.{is_false, truth_of, number_of, unary_value, by_left, compared}
use Rattle.pst_model.specs.ConstraintTree.{SlotTree}
use Rattle.pst_terms.specs.Terms.{Term, Prefix, Infix}
use Rattle.pst_terms.specs.Values.{term_value}
use Rattle.pst_terms.specs.Fields.{counted}
use Rattle.pst_elab_rules.specs.Constraints.{pairs, implied, for_each}
use Rattle.pst_elab_rules.specs.Meaning.{Holds, AllHold, HaveValues, IsNoneOf, AreDifferent}

some_is : {A : Type 0} (x y : A) → Some x ≡ Some y → x ≡ y
some_is x y e = ap (λ o. unwrap_or o x) e

abbrev IsMissing : {A : Type 0} → Option A → Type 0
IsMissing None = Unit {0}
IsMissing (Some x) = ⊥

is_missing : {A : Type 0} (x : A) → None ≡ Some x → ⊥
is_missing x e = subst IsMissing e tt

pub one_is_not_zero : pos 1 ≡ pos 0 → ⊥
one_is_not_zero e = true≢false (sym ((Decides-int_eq (pos 1) (pos 0)).1 e))

-- ---- tests

false_by : (v : ℤ) → v ≡ pos 0 → is_false v ≡ true
false_by v e = (Decides-int_eq v (pos 0)).1 e

true_by : (v : ℤ) (b : Bool) → is_false v ≡ b → (v ≡ pos 0 → ⊥) → is_false v ≡ false
true_by v true e h = absurd (h ((Decides-int_eq v (pos 0)).0 e))
true_by v false e h = e

not_zero : (v : ℤ) → is_false v ≡ false → v ≡ pos 0 → ⊥
not_zero v e z = true≢false (sym (false_by v z) ∙ e)

-- the truth of a value is no 0 just where the value is none
truth_holds : (v : ℤ) → (v ≡ pos 0 → ⊥) → truth_of v ≡ pos 1
truth_holds v h = ap (λ (b : Bool). number_of (not b)) (true_by v (is_false v) refl h)

truth_fails : (v : ℤ) → v ≡ pos 0 → truth_of v ≡ pos 0
truth_fails v e = ap (λ (b : Bool). number_of (not b)) (false_by v e)

module _ (f : SlotTree → Option ℤ) where
  join : (xs ys : List (Term SlotTree)) → AllHold f xs → AllHold f ys → AllHold f (xs ++ ys)
  join [] ys a b = b
  join (x ∷ xs) ys a b = (a.0, join xs ys a.1 b)

  left : (xs ys : List (Term SlotTree)) → AllHold f (xs ++ ys) → AllHold f xs
  left [] ys h = tt
  left (x ∷ xs) ys h = (h.0, left xs ys h.1)

  right : (xs ys : List (Term SlotTree)) → AllHold f (xs ++ ys) → AllHold f ys
  right [] ys h = h
  right (x ∷ xs) ys h = right xs ys h.1

  -- ---- implications

  module _ (c term : Term SlotTree) where
    -- where the condition isn't 0 the value is the truth of the constraint's
    by_true : (v : ℤ) → term_value f c ≡ Some v → (v ≡ pos 0 → ⊥) → term_value f (Infix Implies c term) ≡ option_map truth_of (term_value f term)
    by_true v e h =
        ap (λ (o : Option ℤ). by_left o (option_map truth_of (term_value f term)) (Some (pos 1))) e
        ∙ ap (λ (b : Bool). if b then Some (pos 1) else option_map truth_of (term_value f term)) (true_by v (is_false v) refl h)

    by_false : term_value f c ≡ Some (pos 0) → term_value f (Infix Implies c term) ≡ Some (pos 1)
    by_false e = ap (λ (o : Option ℤ). by_left o (option_map truth_of (term_value f term)) (Some (pos 1))) e

    by_none : term_value f c ≡ None → term_value f (Infix Implies c term) ≡ None
    by_none e = ap (λ (o : Option ℤ). by_left o (option_map truth_of (term_value f term)) (Some (pos 1))) e

    -- what has the truth of a value holds where that isn't 0
    truth_to : (o : Option ℤ) (v : ℤ) → option_map truth_of o ≡ Some v → (v ≡ pos 0 → ⊥) → (w : ℤ) × (o ≡ Some w) × (w ≡ pos 0 → ⊥)
    truth_to None v e h = absurd (is_missing v e)
    truth_to (Some w) v e h = (w, refl, λ z. h (sym (some_is (truth_of w) v e) ∙ truth_fails w z))

    holds_to : (v : ℤ) → term_value f c ≡ Some v → (v ≡ pos 0 → ⊥) → Holds f (Infix Implies c term) → Holds f term
    holds_to v e h has = truth_to (term_value f term) has.0 (sym (by_true v e h) ∙ has.1) has.2

    holds_from : (v : ℤ) → term_value f c ≡ Some v → (v ≡ pos 0 → ⊥) → Holds f term → Holds f (Infix Implies c term)
    holds_from v e h has =
        (pos 1, by_true v e h ∙ (ap (λ (o : Option ℤ). option_map truth_of o) has.1 ∙ ap (λ (w : ℤ). Some w) (truth_holds has.0 has.2)), one_is_not_zero)

    holds_by_false : term_value f c ≡ Some (pos 0) → Holds f (Infix Implies c term)
    holds_by_false e = (pos 1, by_false e, one_is_not_zero)

    pub never_by_none : term_value f c ≡ None → Holds f (Infix Implies c term) → ⊥
    never_by_none e has = is_missing has.0 (sym (by_none e) ∙ has.1)

  module _ (c : Term SlotTree) where
    all_to : (v : ℤ) → term_value f c ≡ Some v → (v ≡ pos 0 → ⊥) → (set : List (Term SlotTree)) → AllHold f (implied c set) → AllHold f set
    all_to v e h [] has = tt
    all_to v e h (t ∷ more) has = (holds_to c t v e h has.0, all_to v e h more has.1)

    all_from : (v : ℤ) → term_value f c ≡ Some v → (v ≡ pos 0 → ⊥) → (set : List (Term SlotTree)) → AllHold f set → AllHold f (implied c set)
    all_from v e h [] has = tt
    all_from v e h (t ∷ more) has = (holds_from c t v e h has.0, all_from v e h more has.1)

    pub where_true : (set : List (Term SlotTree)) (v : ℤ) → term_value f c ≡ Some v → (v ≡ pos 0 → ⊥) → AllHold f (implied c set) ↔ AllHold f set
    where_true set v e h = (all_to v e h set, all_from v e h set)

    pub where_false : (set : List (Term SlotTree)) → term_value f c ≡ Some (pos 0) → AllHold f (implied c set)
    where_false [] e = tt
    where_false (t ∷ more) e = (holds_by_false c t e, where_false more e)

  -- ---- the other part of an `if`

  negated : (c : Term SlotTree) (v : ℤ) → term_value f c ≡ Some v → term_value f (Prefix Not c) ≡ unary_value Not v
  negated c v e = ap (λ (o : Option ℤ). option_and_then (unary_value Not) o) e

  pub else_where_false : (c : Term SlotTree) (set : List (Term SlotTree)) → term_value f c ≡ Some (pos 0) → AllHold f (implied (Prefix Not c) set) ↔ AllHold f set
  else_where_false c set e = where_true (Prefix Not c) set (pos 1) (negated c (pos 0) e) one_is_not_zero

  pub else_where_true : (c : Term SlotTree) (set : List (Term SlotTree)) (v : ℤ) → term_value f c ≡ Some v → (v ≡ pos 0 → ⊥) → AllHold f (implied (Prefix Not c) set)
  else_where_true c set v e h = where_false (Prefix Not c) set (negated c v e ∙ ap (λ (b : Bool). Some (number_of b)) (true_by v (is_false v) refl h))

  -- ---- `unique`

  unequal : (p q : Term SlotTree) (v w : ℤ) → term_value f p ≡ Some v → term_value f q ≡ Some w → term_value f (Infix NotEqual p q) ≡ Some (number_of (not (int_eq v w)))
  unequal p q v w a b = λ i. compared (λ x y. not (int_eq x y)) (a i) (b i)

  differ_by : (v w : ℤ) (b : Bool) → int_eq v w ≡ b → (number_of (not b) ≡ pos 0 → ⊥) → v ≡ w → ⊥
  differ_by v w true e h same = h refl
  differ_by v w false e h same = true≢false (sym ((Decides-int_eq v w).1 same) ∙ e)

  same_by : (v w : ℤ) (b : Bool) → int_eq v w ≡ b → (v ≡ w → ⊥) → number_of (not b) ≡ pos 0 → ⊥
  same_by v w true e h z = h ((Decides-int_eq v w).0 e)
  same_by v w false e h z = one_is_not_zero z

  pair_to : (p q : Term SlotTree) (v w : ℤ) → term_value f p ≡ Some v → term_value f q ≡ Some w → Holds f (Infix NotEqual p q) → v ≡ w → ⊥
  pair_to p q v w a b has =
      differ_by v w (int_eq v w) refl (λ z. has.2 (sym (some_is (number_of (not (int_eq v w))) has.0 (sym (unequal p q v w a b) ∙ has.1)) ∙ z))

  pair_from : (p q : Term SlotTree) (v w : ℤ) → term_value f p ≡ Some v → term_value f q ≡ Some w → (v ≡ w → ⊥) → Holds f (Infix NotEqual p q)
  pair_from p q v w a b h = (number_of (not (int_eq v w)), unequal p q v w a b, same_by v w (int_eq v w) refl h)

  with_each_to : (p : Term SlotTree) (v : ℤ) → term_value f p ≡ Some v → (terms : List (Term SlotTree)) (values : List ℤ) → HaveValues f terms values → AllHold f (map (Infix NotEqual p) terms) → IsNoneOf v values
  with_each_to p v e [] [] have all = tt
  with_each_to p v e [] (w ∷ ws) have all = absurd have
  with_each_to p v e (t ∷ more) [] have all = absurd have
  with_each_to p v e (t ∷ more) (w ∷ ws) have all = (pair_to p t v w e have.0 all.0, with_each_to p v e more ws have.1 all.1)

  with_each_from : (p : Term SlotTree) (v : ℤ) → term_value f p ≡ Some v → (terms : List (Term SlotTree)) (values : List ℤ) → HaveValues f terms values → IsNoneOf v values → AllHold f (map (Infix NotEqual p) terms)
  with_each_from p v e [] [] have none = tt
  with_each_from p v e [] (w ∷ ws) have none = absurd have
  with_each_from p v e (t ∷ more) [] have none = absurd have
  with_each_from p v e (t ∷ more) (w ∷ ws) have none = (pair_from p t v w e have.0 none.0, with_each_from p v e more ws have.1 none.1)

  unique_to : (terms : List (Term SlotTree)) (values : List ℤ) → HaveValues f terms values → AllHold f (pairs terms) → AreDifferent values
  unique_to [] [] have all = tt
  unique_to [] (v ∷ vs) have all = absurd have
  unique_to (t ∷ more) [] have all = absurd have
  unique_to (t ∷ more) (v ∷ vs) have all =
      (with_each_to t v have.0 more vs have.1 (left (map (Infix NotEqual t) more) (pairs more) all), unique_to more vs have.1 (right (map (Infix NotEqual t) more) (pairs more) all))

  unique_from : (terms : List (Term SlotTree)) (values : List ℤ) → HaveValues f terms values → AreDifferent values → AllHold f (pairs terms)
  unique_from [] [] have apart = tt
  unique_from [] (v ∷ vs) have apart = absurd have
  unique_from (t ∷ more) [] have apart = absurd have
  unique_from (t ∷ more) (v ∷ vs) have apart =
      join (map (Infix NotEqual t) more) (pairs more) (with_each_from t v have.0 more vs have.1 apart.0) (unique_from more vs have.1 apart.1)

  pub unique : (terms : List (Term SlotTree)) (values : List ℤ) → HaveValues f terms values → AllHold f (pairs terms) ↔ AreDifferent values
  unique terms values have = (unique_to terms values have, unique_from terms values have)

  -- ---- `foreach`

  module _ (set : ℕ → List (Term SlotTree)) where
    each_to : (first n : ℕ) → AllHold f (flat_map set (counted first n)) → (i : ℕ) → first + i < first + n → AllHold f (set (first + i))
    each_to first zero has i less = absurd (omega (arith, less))
    each_to first (suc n) has zero less = subst (λ (k : ℕ). AllHold f (set k)) (omega arith) (left (set first) (flat_map set (counted (first + 1) n)) has)
    each_to first (suc n) has (suc i) less =
        subst (λ (k : ℕ). AllHold f (set k)) (omega arith) (each_to (first + 1) n (right (set first) (flat_map set (counted (first + 1) n)) has) i (omega (arith, less)))

    each_from : (first n : ℕ) → ((i : ℕ) → i < n → AllHold f (set (first + i))) → AllHold f (flat_map set (counted first n))
    each_from first zero has = tt
    each_from first (suc n) has =
        join (set first) (flat_map set (counted (first + 1) n)) (subst (λ (k : ℕ). AllHold f (set k)) (omega arith) (has 0 (omega arith)))
        (each_from (first + 1) n (λ i less. subst (λ (k : ℕ). AllHold f (set k)) (omega arith) (has (suc i) (omega (arith, less)))))

    pub each : (n : ℕ) → AllHold f (for_each set n) ↔ ((i : ℕ) → i < n → AllHold f (set i))
    each n = (
      (λ has i less. subst (λ (k : ℕ). AllHold f (set k)) (omega arith) (each_to 0 n has i (omega (arith, less)))),
      (λ has. each_from 0 n (λ i less. subst (λ (k : ℕ). AllHold f (set k)) (omega arith) (has i less))),
    )
