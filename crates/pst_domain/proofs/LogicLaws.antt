-- Spans of the logical operators hold the values, and narrower operands give a narrower span.
use Rattle.std.proofs.Common.{◌≡◌, ℤ, pos, Bool, true, false, cond, not, ◌&&◌, ◌||◌, Option, Some, None, option_map, refl, sym, ap₂, ◌∙◌}
use Rattle.std.proofs.lemmas.Bool.{and_parts}
use Rattle.pst_expr.specs.declared.ranges.Span.{Span}
use Rattle.pst_expr.specs.Value as value
use Rattle.pst_expr.specs.Value.{is_false, number_of, by_left}
use Rattle.pst_domain.specs.declared.truth.Truth.{Truth}
use Rattle.pst_domain.specs.declared.truth.Truth.TheVariants.{False, True, Either}
use Rattle.pst_domain.specs.Bounds.{Holds, IsInside}
use Rattle.pst_domain.specs.Truth.{truth_of, span_of_truth, and_truth, or_truth, implies_truth}
use Rattle.pst_domain.specs.Interval.{logical}
use Rattle.pst_domain.proofs.CutLaws.{Sane}
use Rattle.pst_domain.proofs.TruthLaws.{may, is_true, number_held, truth_inside, truth_sane, may_hold, may_inside}

abbrev pub same : Bool → Bool → Bool
same true v = v
same false v = not v

-- the operator is d where its left operand is l, and else its right operand
abbrev pub IsLogical : (Option Truth → Option Truth → Option Truth) → Bool → Bool → Type 0
IsLogical f l d = (a b : Option Truth) (v : Bool) → may (f a b) v ≡ ((may a l && same d v) || (may a (not l) && may b v))

and_is : IsLogical and_truth false false
and_is None b v = refl
and_is (Some False) b true = refl
and_is (Some False) b false = refl
and_is (Some True) b v = refl
and_is (Some Either) None v = go v
  where
    go : (v : Bool) → not v ≡ (not v || false)
    go true = refl
    go false = refl
and_is (Some Either) (Some False) true = refl
and_is (Some Either) (Some False) false = refl
and_is (Some Either) (Some True) true = refl
and_is (Some Either) (Some True) false = refl
and_is (Some Either) (Some Either) true = refl
and_is (Some Either) (Some Either) false = refl

or_is : IsLogical or_truth true true
or_is None b v = refl
or_is (Some False) b v = refl
or_is (Some True) b true = refl
or_is (Some True) b false = refl
or_is (Some Either) None true = refl
or_is (Some Either) None false = refl
or_is (Some Either) (Some False) true = refl
or_is (Some Either) (Some False) false = refl
or_is (Some Either) (Some True) true = refl
or_is (Some Either) (Some True) false = refl
or_is (Some Either) (Some Either) true = refl
or_is (Some Either) (Some Either) false = refl

implies_is : IsLogical implies_truth false true
implies_is None b v = refl
implies_is (Some False) b true = refl
implies_is (Some False) b false = refl
implies_is (Some True) b v = refl
implies_is (Some Either) None true = refl
implies_is (Some Either) None false = refl
implies_is (Some Either) (Some False) true = refl
implies_is (Some Either) (Some False) false = refl
implies_is (Some Either) (Some True) true = refl
implies_is (Some Either) (Some True) false = refl
implies_is (Some Either) (Some Either) true = refl
implies_is (Some Either) (Some Either) false = refl

or_left : (p q : Bool) → p ≡ true → (p || q) ≡ true
or_left p q e = rw e refl

or_right : (p q : Bool) → q ≡ true → (p || q) ≡ true
or_right true q e = refl
or_right false q e = e

same_self : (d : Bool) → same d d ≡ true
same_self true = refl
same_self false = refl

-- a disjunction of conjunctions grows with its parts
grows : (p q r s p' q' r' s' : Bool) → (p ≡ true → p' ≡ true) → (q ≡ true → q' ≡ true) → (r ≡ true → r' ≡ true) → (s ≡ true → s' ≡ true) → ((p && q) || (r && s)) ≡ true → ((p' && q') || (r' && s')) ≡ true
grows true true r s p' q' r' s' a b c d e = or_left (p' && q') (r' && s') (ap₂ ◌&&◌ (a refl) (b refl))
grows true false r s p' q' r' s' a b c d e = let k = and_parts r s e in or_right (p' && q') (r' && s') (ap₂ ◌&&◌ (c k.0) (d k.1))
grows false q r s p' q' r' s' a b c d e = let k = and_parts r s e in or_right (p' && q') (r' && s') (ap₂ ◌&&◌ (c k.0) (d k.1))

module _ (f : Option Truth → Option Truth → Option Truth) (l d : Bool) (is : IsLogical f l d) where
  logical_inside : (r q r' q' : Option Span) → Sane r' → Sane q' → IsInside r' r → IsInside q' q → IsInside (logical f r' q') (logical f r q)
  logical_inside r q r' q' m n h k =
      truth_inside (f (truth_of r') (truth_of q')) (f (truth_of r) (truth_of q)) (λ v e.
      is (truth_of r) (truth_of q) v ∙ grows (may (truth_of r') l) (same d v) (may (truth_of r') (not l)) (may (truth_of q') v) (may (truth_of r) l) (same d v) (may (truth_of r) (not l)) (may (truth_of q) v)
      (may_inside r' r m h l) (λ x. x) (may_inside r' r m h (not l)) (may_inside q' q n k v) (sym (is (truth_of r') (truth_of q') v) ∙ e))

  -- decided by the left operand
  decided : (a b : Option Truth) → may a l ≡ true → Holds (option_map span_of_truth (f a b)) (Some (number_of d))
  decided a b h = number_held (f a b) d (is a b d ∙ or_left (may a l && same d d) (may a (not l) && may b d) (ap₂ ◌&&◌ h (same_self d)))

  -- the right operand's truth
  taken : (a : Option Truth) (q : Option Span) (b : Option ℤ) → may a (not l) ≡ true → Holds q b → Holds (option_map span_of_truth (f a (truth_of q))) (option_map value.truth_of b)
  taken a q None h k = tt
  taken a q (Some y) h k =
      let v = is_true y in
      number_held (f a (truth_of q)) v (is a (truth_of q) v ∙ or_right (may a l && same d v) (may a (not l) && may (truth_of q) v) (ap₂ ◌&&◌ h (may_hold q y k)))

-- what a left operand allows, by its test
by_test : (P : Option ℤ → Type 0) (r : Option Span) (a v w : Option ℤ) → Holds r a → P None → (may (truth_of r) true ≡ true → P v) → (may (truth_of r) false ≡ true → P w) → P (by_left a v w)
by_test P r None v w h none on_true on_false = none
by_test P r (Some x) v w h none on_true on_false = go (is_false x) (may_hold r x h)
  where
    go : (b : Bool) → may (truth_of r) (not b) ≡ true → P (cond b w v)
    go true e = on_false e
    go false e = on_true e

pub and_holds : (r q : Option Span) (a b : Option ℤ) → Holds r a → Holds q b → Holds (logical and_truth r q) (by_left a (option_map value.truth_of b) (Some (pos 0)))
and_holds r q a b h k =
    by_test (Holds (logical and_truth r q)) r a (option_map value.truth_of b) (Some (pos 0)) h tt
    (λ e. taken and_truth false false and_is (truth_of r) q b e k)
    (λ e. decided and_truth false false and_is (truth_of r) (truth_of q) e)

pub or_holds : (r q : Option Span) (a b : Option ℤ) → Holds r a → Holds q b → Holds (logical or_truth r q) (by_left a (Some (pos 1)) (option_map value.truth_of b))
or_holds r q a b h k =
    by_test (Holds (logical or_truth r q)) r a (Some (pos 1)) (option_map value.truth_of b) h tt
    (λ e. decided or_truth true true or_is (truth_of r) (truth_of q) e)
    (λ e. taken or_truth true true or_is (truth_of r) q b e k)

pub implies_holds : (r q : Option Span) (a b : Option ℤ) → Holds r a → Holds q b → Holds (logical implies_truth r q) (by_left a (option_map value.truth_of b) (Some (pos 1)))
implies_holds r q a b h k =
    by_test (Holds (logical implies_truth r q)) r a (option_map value.truth_of b) (Some (pos 1)) h tt
    (λ e. taken implies_truth false true implies_is (truth_of r) q b e k)
    (λ e. decided implies_truth false true implies_is (truth_of r) (truth_of q) e)

pub and_inside : (r q r' q' : Option Span) → Sane r' → Sane q' → IsInside r' r → IsInside q' q → IsInside (logical and_truth r' q') (logical and_truth r q)
and_inside r q r' q' m n h k = logical_inside and_truth false false and_is r q r' q' m n h k

pub or_inside : (r q r' q' : Option Span) → Sane r' → Sane q' → IsInside r' r → IsInside q' q → IsInside (logical or_truth r' q') (logical or_truth r q)
or_inside r q r' q' m n h k = logical_inside or_truth true true or_is r q r' q' m n h k

pub implies_inside : (r q r' q' : Option Span) → Sane r' → Sane q' → IsInside r' r → IsInside q' q → IsInside (logical implies_truth r' q') (logical implies_truth r q)
implies_inside r q r' q' m n h k = logical_inside implies_truth false true implies_is r q r' q' m n h k

pub and_sane : (r q : Option Span) → Sane (logical and_truth r q)
and_sane r q = truth_sane (and_truth (truth_of r) (truth_of q))

pub or_sane : (r q : Option Span) → Sane (logical or_truth r q)
or_sane r q = truth_sane (or_truth (truth_of r) (truth_of q))

pub implies_sane : (r q : Option Span) → Sane (logical implies_truth r q)
implies_sane r q = truth_sane (implies_truth (truth_of r) (truth_of q))
