-- What the rewritings come to, for values that may be missing.
use Rattle.std.proofs.Common.{◌≡◌, refl, sym, subst, ap, ◌∙◌, true≢false}
use Rattle.std.specs.Prelude.{◌↔◌, ℤ, pos, Bool, true, false, List, [], ◌∷◌, ◌++◌, map, Option, Some, None}
use Rattle.std.specs.Option.{option_and_then, unwrap_or}
use Rattle.std.specs.Ordering.{int_eq}
use Rattle.std.proofs.lemmas.Bool.Decides.{Decides-int_eq}
use Rattle.pst_expr.specs.declared.tree.UnaryOp.TheVariants.{Not}
use Rattle.pst_expr.specs.declared.tree.BinaryOp.TheVariants.{NotEqual}
use Rattle.pst_expr.specs.Value.{unary_value, binary_value}
use Rattle.pst_model.specs.ConstraintTree.{SlotTree}
use Rattle.pst_terms.specs.Terms.{Term, Prefix, Infix}
use Rattle.pst_terms.specs.Values.{term_value}
use Rattle.pst_elab_rules.specs.Constraints.{pairs, implied}
use Rattle.pst_elab_rules.specs.Meaning.{Holds, AllHold, RewritingsMean}
use Rattle.pst_set_meaning.specs.Holding.{IsTrueValue, Differ, DiffersFromAll, AreApart, HoldsWhere, HoldsElse}

abbrev IsMissing : Option ℤ → Type 0
IsMissing None = Unit {0}
IsMissing (Some x) = ⊥

some_is : (x y : ℤ) → Some x ≡ Some y → x ≡ y
some_is x y e = ap (λ (o : Option ℤ). unwrap_or o x) e

missing : (o : Option ℤ) (x : ℤ) → o ≡ None → o ≡ Some x → ⊥
missing o x none some = subst IsMissing (sym none ∙ some) tt

not_zero : (v : ℤ) → int_eq v (pos 0) ≡ false → v ≡ pos 0 → ⊥
not_zero v e z = true≢false (sym ((Decides-int_eq v (pos 0)).1 z) ∙ e)

-- ---- one constraint

module _ (f : SlotTree → Option ℤ) where
  true_to : (term : Term SlotTree) (o : Option ℤ) → term_value f term ≡ o → Holds f term → IsTrueValue o
  true_to term None e has = missing (term_value f term) has.0 e has.1
  true_to term (Some v) e has = λ z. has.2 (some_is has.0 v (sym has.1 ∙ e) ∙ z)

  true_from : (term : Term SlotTree) (o : Option ℤ) → term_value f term ≡ o → IsTrueValue o → Holds f term
  true_from term None e is = absurd is
  true_from term (Some v) e is = (v, e, is)

  -- a constraint holds just where its value is there and isn't 0
  pub true_means : (term : Term SlotTree) (o : Option ℤ) → term_value f term ≡ o → Holds f term ↔ IsTrueValue o
  true_means term o e = (true_to term o e, true_from term o e)

  -- ---- lists

  pub join : (xs ys : List (Term SlotTree)) → AllHold f xs → AllHold f ys → AllHold f (xs ++ ys)
  join [] ys a b = b
  join (x ∷ xs) ys a b = (a.0, join xs ys a.1 b)

  pub left : (xs ys : List (Term SlotTree)) → AllHold f (xs ++ ys) → AllHold f xs
  left [] ys h = tt
  left (x ∷ xs) ys h = (h.0, left xs ys h.1)

  pub right : (xs ys : List (Term SlotTree)) → AllHold f (xs ++ ys) → AllHold f ys
  right [] ys h = h
  right (x ∷ xs) ys h = right xs ys h.1

  module _ (m : RewritingsMean) where
    -- ---- `unique`

    apart_to : (p q : Term SlotTree) (a b : Option ℤ) → term_value f p ≡ a → term_value f q ≡ b → Holds f (Infix NotEqual p q) → Differ a b
    apart_to p q None b ea eb has = missing (term_value f (Infix NotEqual p q)) has.0 (ap (λ (o : Option ℤ). binary_value NotEqual o (term_value f q)) ea) has.1
    apart_to p q (Some v) None ea eb has = missing (term_value f (Infix NotEqual p q)) has.0 (λ i. binary_value NotEqual (ea i) (eb i)) has.1
    apart_to p q (Some v) (Some w) ea eb has = ((m.unique f (p ∷ q ∷ []) (v ∷ w ∷ []) (ea, (eb, tt))).0 (has, tt)).0.0

    apart_from : (p q : Term SlotTree) (a b : Option ℤ) → term_value f p ≡ a → term_value f q ≡ b → Differ a b → Holds f (Infix NotEqual p q)
    apart_from p q None b ea eb differ = absurd differ
    apart_from p q (Some v) None ea eb differ = absurd differ
    apart_from p q (Some v) (Some w) ea eb differ = ((m.unique f (p ∷ q ∷ []) (v ∷ w ∷ []) (ea, (eb, tt))).1 ((differ, tt), (tt, tt))).0

    each_to : (p : Term SlotTree) (terms : List (Term SlotTree)) → AllHold f (map (Infix NotEqual p) terms) → DiffersFromAll (term_value f p) (map (term_value f) terms)
    each_to p [] all = tt
    each_to p (q ∷ more) all = (apart_to p q (term_value f p) (term_value f q) refl refl all.0, each_to p more all.1)

    each_from : (p : Term SlotTree) (terms : List (Term SlotTree)) → DiffersFromAll (term_value f p) (map (term_value f) terms) → AllHold f (map (Infix NotEqual p) terms)
    each_from p [] all = tt
    each_from p (q ∷ more) all = (apart_from p q (term_value f p) (term_value f q) refl refl all.0, each_from p more all.1)

    pairs_to : (terms : List (Term SlotTree)) → AllHold f (pairs terms) → AreApart (map (term_value f) terms)
    pairs_to [] all = tt
    pairs_to (p ∷ more) all = (each_to p more (left (map (Infix NotEqual p) more) (pairs more) all), pairs_to more (right (map (Infix NotEqual p) more) (pairs more) all))

    pairs_from : (terms : List (Term SlotTree)) → AreApart (map (term_value f) terms) → AllHold f (pairs terms)
    pairs_from [] apart = tt
    pairs_from (p ∷ more) apart = join (map (Infix NotEqual p) more) (pairs more) (each_from p more apart.0) (pairs_from more apart.1)

    pub pairs_mean : (terms : List (Term SlotTree)) → AllHold f (pairs terms) ↔ AreApart (map (term_value f) terms)
    pairs_mean terms = (pairs_to terms, pairs_from terms)

    -- ---- implications

    module _ (c : Term SlotTree) where
      none_to : (set : List (Term SlotTree)) → term_value f c ≡ None → AllHold f (implied c set) → set ≡ []
      none_to [] e all = refl
      none_to (t ∷ more) e all = absurd (m.without_value f c t e all.0)

      none_from : (set : List (Term SlotTree)) → set ≡ [] → AllHold f (implied c set)
      none_from set is = subst (λ (k : List (Term SlotTree)). AllHold f (implied c k)) (sym is) tt

      where_by : (set : List (Term SlotTree)) (v : ℤ) (b : Bool) → int_eq v (pos 0) ≡ b → term_value f c ≡ Some v → ((v ≡ pos 0 → ⊥) → AllHold f set) → AllHold f (implied c set)
      where_by set v true z e holds = m.where_false f c set (e ∙ ap (λ (n : ℤ). Some n) ((Decides-int_eq v (pos 0)).0 z))
      where_by set v false z e holds = let isnt = not_zero v z in (m.where_true f c set v e isnt).1 (holds isnt)

      implied_to : (set : List (Term SlotTree)) (o : Option ℤ) → term_value f c ≡ o → AllHold f (implied c set) → HoldsWhere o (set ≡ []) (AllHold f set)
      implied_to set None e all = none_to set e all
      implied_to set (Some v) e all = λ isnt. (m.where_true f c set v e isnt).0 all

      implied_from : (set : List (Term SlotTree)) (o : Option ℤ) → term_value f c ≡ o → HoldsWhere o (set ≡ []) (AllHold f set) → AllHold f (implied c set)
      implied_from set None e holds = none_from set holds
      implied_from set (Some v) e holds = where_by set v (int_eq v (pos 0)) refl e holds

      pub implied_means : (set : List (Term SlotTree)) (o : Option ℤ) → term_value f c ≡ o → AllHold f (implied c set) ↔ HoldsWhere o (set ≡ []) (AllHold f set)
      implied_means set o e = (implied_to set o e, implied_from set o e)

    -- ---- the other part of an `if`

    module _ (c : Term SlotTree) where
      negated_none : term_value f c ≡ None → term_value f (Prefix Not c) ≡ None
      negated_none e = ap (λ (o : Option ℤ). option_and_then (unary_value Not) o) e

      zero_value : (v : ℤ) → term_value f c ≡ Some v → v ≡ pos 0 → term_value f c ≡ Some (pos 0)
      zero_value v e z = e ∙ ap (λ (n : ℤ). Some n) z

      else_by : (set : List (Term SlotTree)) (v : ℤ) (b : Bool) → int_eq v (pos 0) ≡ b → term_value f c ≡ Some v → (v ≡ pos 0 → AllHold f set) → AllHold f (implied (Prefix Not c) set)
      else_by set v true z e holds = let is = (Decides-int_eq v (pos 0)).0 z in (m.else_where_false f c set (zero_value v e is)).1 (holds is)
      else_by set v false z e holds = m.else_where_true f c set v e (not_zero v z)

      else_to : (set : List (Term SlotTree)) (o : Option ℤ) → term_value f c ≡ o → AllHold f (implied (Prefix Not c) set) → HoldsElse o (set ≡ []) (AllHold f set)
      else_to set None e all = none_to (Prefix Not c) set (negated_none e) all
      else_to set (Some v) e all = λ is. (m.else_where_false f c set (zero_value v e is)).0 all

      else_from : (set : List (Term SlotTree)) (o : Option ℤ) → term_value f c ≡ o → HoldsElse o (set ≡ []) (AllHold f set) → AllHold f (implied (Prefix Not c) set)
      else_from set None e holds = none_from (Prefix Not c) set holds
      else_from set (Some v) e holds = else_by set v (int_eq v (pos 0)) refl e holds

      pub else_means : (set : List (Term SlotTree)) (o : Option ℤ) → term_value f c ≡ o → AllHold f (implied (Prefix Not c) set) ↔ HoldsElse o (set ≡ []) (AllHold f set)
      else_means set o e = (else_to set o e, else_from set o e)
