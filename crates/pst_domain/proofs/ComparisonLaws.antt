-- Comparisons of spans tell what all pairs do.
use Rattle.std.proofs.Common.{◌≡◌, ⊎_elim, ℤ, ◌≤ℤ◌, int_lt, int_le, Bool, true, false, not, ◌&&◌, ◌||◌, Some, arith, refl, sym, ap, ap₂, subst, ◌∙◌}
use Rattle.std.specs.Int.{int_max}
use Rattle.std.specs.Ordering.{int_eq}
use Rattle.std.proofs.lemmas.Int.{ints, clamps}
use Rattle.std.proofs.lemmas.Bool.{and_parts}
use Rattle.pst_expr.specs.declared.ranges.Span.{Span}
use Rattle.pst_expr.specs.Spans.{IsInSpan}
use Rattle.pst_expr.specs.Value.{number_of}
use Rattle.pst_domain.specs.declared.truth.Truth.{Truth}
use Rattle.pst_domain.specs.declared.truth.Truth.TheVariants.{False, True, Either}
use Rattle.pst_domain.specs.Bounds.{IsInside}
use Rattle.pst_domain.specs.Truth.{span_of_truth, negated}
use Rattle.pst_domain.specs.Comparison.{decided, less_truth, less_or_equal_truth, equal_truth, not_equal_truth}
use Rattle.pst_domain.specs.Laws.{AllCompare, IsExact, DecidesPairs, DecideAllPairs}
use Rattle.pst_domain.proofs.Decisions.{le_test, not_le_test, lt_test, not_lt_test, by_equality, equal_test, unequal_test, some_of, neither, not_true, not_false, at_least_self}
use Rattle.pst_domain.proofs.CutLaws.{IsSane, inside_holds}
use Rattle.pst_domain.proofs.Lawful.{IsLawful}
use Rattle.pst_domain.proofs.TruthLaws.{may, number_held, truth_inside, truth_sane}

-- ---- from two tests

-- an answer of two tests is exact where each tells what it should
module _ (all none : Bool) (A B : Type 0) (to : all ≡ true → A) (back : A → all ≡ true) (to' : none ≡ true → B) (back' : B → none ≡ true) (apart : A → B → ⊥) where
  true_is : decided all none ≡ True → A
  true_is e = go all refl none e
    where
      go : (b : Bool) → all ≡ b → (c : Bool) → decided b c ≡ True → A
      go true f c g = to f
      go false f true g = absurd cc
      go false f false g = absurd cc

  is_true : A → decided all none ≡ True
  is_true a = rw (back a) refl

  false_is : decided all none ≡ False → B
  false_is e = go all none refl e
    where
      go : (b : Bool) (c : Bool) → none ≡ c → decided b c ≡ False → B
      go true c f g = absurd cc
      go false true f g = to' f
      go false false f g = absurd cc

  is_false : B → decided all none ≡ False
  is_false b = go all refl
    where
      go : (a : Bool) → all ≡ a → decided a none ≡ False
      go true e = absurd (apart (to e) b)
      go false e = rw (back' b) refl

not_both : (test : ℤ → ℤ → Bool) (s t : Span) → s.low ≤ℤ s.high → t.low ≤ℤ t.high → AllCompare test true s t → AllCompare test false s t → ⊥
not_both test s t p q a b =
    let h = a s.low t.low (at_least_self s.low, p) (at_least_self t.low, q) in
    let k = b s.low t.low (at_least_self s.low, p) (at_least_self t.low, q) in
    let e : true ≡ false = sym h ∙ k in
    cc

module _ (test : ℤ → ℤ → Bool) (truth : Span → Span → Truth) (s t : Span) (p : s.low ≤ℤ s.high) (q : t.low ≤ℤ t.high) where
  exact : (all none : Bool) → truth s t ≡ decided all none → (all ≡ true → AllCompare test true s t) → (AllCompare test true s t → all ≡ true) → (none ≡ true → AllCompare test false s t) → (AllCompare test false s t → none ≡ true) → IsExact test truth s t
  exact all none is to back to' back' =
      let A = AllCompare test true s t in
      let B = AllCompare test false s t in
      let apart = not_both test s t p q in
      record {
        on_true = (λ e. true_is all none A B to back to' back' apart (sym is ∙ e), λ a. is ∙ is_true all none A B to back to' back' apart a);
        on_false = (λ e. false_is all none A B to back to' back' apart (sym is ∙ e), λ b. is ∙ is_false all none A B to back to' back' apart b);
      }

less_decides : DecidesPairs int_lt less_truth
less_decides s t p q =
    exact int_lt less_truth s t p q (int_lt s.high t.low) (int_le t.high s.low) refl
    (λ e x y h k. lt_test x y (omega (arith, ints, e, h.1, k.0)))
    (λ a. a s.high t.low (p, at_least_self s.high) (at_least_self t.low, q))
    (λ e x y h k. not_lt_test x y (omega (arith, ints, e, h.0, k.1)))
    (λ b. let e = b s.low t.high (at_least_self s.low, p) (q, at_least_self t.high) in le_test t.high s.low (omega (arith, ints, e)))

less_or_equal_decides : DecidesPairs int_le less_or_equal_truth
less_or_equal_decides s t p q =
    exact int_le less_or_equal_truth s t p q (int_le s.high t.low) (int_lt t.high s.low) refl
    (λ e x y h k. le_test x y (omega (arith, ints, e, h.1, k.0)))
    (λ a. a s.high t.low (p, at_least_self s.high) (at_least_self t.low, q))
    (λ e x y h k. not_le_test x y (omega (arith, ints, e, h.0, k.1)))
    (λ b. let e = b s.low t.high (at_least_self s.low, p) (q, at_least_self t.high) in lt_test t.high s.low (omega (arith, ints, e)))

-- ---- equality

-- spans that aren't apart share a number
meets : (s t : Span) → s.low ≤ℤ s.high → t.low ≤ℤ t.high → AllCompare int_eq false s t → (c : Bool) → (int_lt s.high t.low || int_lt t.high s.low) ≡ c → c ≡ true
meets s t p q b true e = refl
meets s t p q b false e =
    let n = neither (int_lt s.high t.low) (int_lt t.high s.low) e in
    let m = int_max s.low t.low in
    let h : IsInSpan m s = (omega (arith, ints, clamps), omega (arith, ints, clamps, n.1)) in
    let k : IsInSpan m t = (omega (arith, ints, clamps), omega (arith, ints, clamps, n.0)) in
    let differ = b m m h k in
    let is_equal = equal_test m m refl in
    absurd (let f : true ≡ false = sym is_equal ∙ differ in cc)

equal_decides : DecidesPairs int_eq equal_truth
equal_decides s t p q =
    exact int_eq equal_truth s t p q (int_eq s.low t.high && int_eq s.high t.low) (int_lt s.high t.low || int_lt t.high s.low) refl
    (λ e x y h k.
    let both = and_parts (int_eq s.low t.high) (int_eq s.high t.low) e in
    let low = by_equality s.low t.high both.0 in
    let high = by_equality s.high t.low both.1 in
    equal_test x y (omega (arith, ints, low, high, h.0, h.1, k.0, k.1)))
    (λ a. ap₂ ◌&&◌ (a s.low t.high (at_least_self s.low, p) (q, at_least_self t.high)) (a s.high t.low (p, at_least_self s.high) (at_least_self t.low, q)))
    (λ e x y h k. unequal_test x y (λ same.
    ⊎_elim (λ l. omega (arith, ints, l, same, h.1, k.0)) (λ l. omega (arith, ints, l, same, h.0, k.1)) (some_of (int_lt s.high t.low) (int_lt t.high s.low) e)))
    (λ b. meets s t p q b (int_lt s.high t.low || int_lt t.high s.low) refl)

-- ---- the other way round, and negated

negated_true : (w : Truth) → negated w ≡ True → w ≡ False
negated_true False e = refl
negated_true True e = absurd cc
negated_true Either e = absurd cc

negated_false : (w : Truth) → negated w ≡ False → w ≡ True
negated_false False e = absurd cc
negated_false True e = refl
negated_false Either e = absurd cc

not_equal_decides : DecidesPairs (λ x y. not (int_eq x y)) not_equal_truth
not_equal_decides s t p q =
    let e = equal_decides s t p q in
    record {
      on_true = (λ w x y h k. ap not (e.on_false.0 (negated_true (equal_truth s t) w) x y h k), λ a. ap negated (e.on_false.1 (λ x y h k. not_true (int_eq x y) (a x y h k))));
      on_false = (λ w x y h k. ap not (e.on_true.0 (negated_false (equal_truth s t) w) x y h k), λ a. ap negated (e.on_true.1 (λ x y h k. not_false (int_eq x y) (a x y h k))));
    }

pub decide_all_pairs : DecideAllPairs
decide_all_pairs = record { less = less_decides; less_or_equal = less_or_equal_decides; equal = equal_decides; not_equal = not_equal_decides }

flipped : (test : ℤ → ℤ → Bool) (truth : Span → Span → Truth) → DecidesPairs test truth → DecidesPairs (λ x y. test y x) (λ s t. truth t s)
flipped test truth d s t p q =
    let e = d t s q p in
    record {
      on_true = (λ w x y h k. e.on_true.0 w y x k h, λ a. e.on_true.1 (λ x y h k. a y x k h));
      on_false = (λ w x y h k. e.on_false.0 w y x k h, λ a. e.on_false.1 (λ x y h k. a y x k h));
    }

-- ---- what decides all pairs is lawful

module _ (test : ℤ → ℤ → Bool) (truth : Span → Span → Truth) (decides : DecidesPairs test truth) where
  allowed : (s t : Span) (x y : ℤ) → IsSane s → IsSane t → IsInSpan x s → IsInSpan y t → may (Some (truth s t)) (test x y) ≡ true
  allowed s t x y p q h k =
      let e = decides s t p.upright q.upright in
      go (truth s t) (λ w. e.on_true.0 w x y h k) (λ w. e.on_false.0 w x y h k)
    where
      go : (w : Truth) → (w ≡ True → test x y ≡ true) → (w ≡ False → test x y ≡ false) → may (Some w) (test x y) ≡ true
      go True a b = a refl
      go False a b = ap not (b refl)
      go Either a b = refl

  narrowed : (s t s' t' : Span) → IsSane s → IsSane t → IsSane s' → IsSane t' → IsInside (Some s') (Some s) → IsInside (Some t') (Some t) → (v : Bool) → may (Some (truth s' t')) v ≡ true → may (Some (truth s t)) v ≡ true
  narrowed s t s' t' p q p' q' h k v m =
      let e = decides s t p.upright q.upright in
      let e' = decides s' t' p'.upright q'.upright in
      go (truth s t) (truth s' t')
      (λ w. e'.on_true.1 (λ x y a b. e.on_true.0 w x y (inside_holds (Some s') (Some s) (Some x) h a) (inside_holds (Some t') (Some t) (Some y) k b)))
      (λ w. e'.on_false.1 (λ x y a b. e.on_false.0 w x y (inside_holds (Some s') (Some s) (Some x) h a) (inside_holds (Some t') (Some t) (Some y) k b)))
      m
    where
      go : (w w' : Truth) → (w ≡ True → w' ≡ True) → (w ≡ False → w' ≡ False) → may (Some w') v ≡ true → may (Some w) v ≡ true
      go True w' a b n = subst (λ u. may (Some u) v ≡ true) (a refl) n
      go False w' a b n = subst (λ u. may (Some u) v ≡ true) (b refl) n
      go Either w' a b n = refl

  comparison_lawful : IsLawful (λ x y. Some (number_of (test x y))) (λ s t. Some (span_of_truth (truth s t)))
  comparison_lawful = record {
    holds = λ s t x y p q h k i. number_held (Some (truth s t)) (test x y) (allowed s t x y p q h k);
    inside = λ s t s' t' p q p' q' h k. truth_inside (Some (truth s' t')) (Some (truth s t)) (narrowed s t s' t' p q p' q' h k);
    sane = λ s t p q. truth_sane (Some (truth s t));
  }

pub less_lawful : IsLawful (λ x y. Some (number_of (int_lt x y))) (λ s t. Some (span_of_truth (less_truth s t)))
less_lawful = comparison_lawful int_lt less_truth less_decides

pub less_or_equal_lawful : IsLawful (λ x y. Some (number_of (int_le x y))) (λ s t. Some (span_of_truth (less_or_equal_truth s t)))
less_or_equal_lawful = comparison_lawful int_le less_or_equal_truth less_or_equal_decides

pub greater_lawful : IsLawful (λ x y. Some (number_of (int_lt y x))) (λ s t. Some (span_of_truth (less_truth t s)))
greater_lawful = comparison_lawful (λ x y. int_lt y x) (λ s t. less_truth t s) (flipped int_lt less_truth less_decides)

pub greater_or_equal_lawful : IsLawful (λ x y. Some (number_of (int_le y x))) (λ s t. Some (span_of_truth (less_or_equal_truth t s)))
greater_or_equal_lawful = comparison_lawful (λ x y. int_le y x) (λ s t. less_or_equal_truth t s) (flipped int_le less_or_equal_truth less_or_equal_decides)

pub equal_lawful : IsLawful (λ x y. Some (number_of (int_eq x y))) (λ s t. Some (span_of_truth (equal_truth s t)))
equal_lawful = comparison_lawful int_eq equal_truth equal_decides

pub not_equal_lawful : IsLawful (λ x y. Some (number_of (not (int_eq x y)))) (λ s t. Some (span_of_truth (not_equal_truth s t)))
not_equal_lawful = comparison_lawful (λ x y. not (int_eq x y)) not_equal_truth not_equal_decides
