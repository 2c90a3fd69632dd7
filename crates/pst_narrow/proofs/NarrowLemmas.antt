-- Steps of narrowing, one after another.
use Rattle.std.proofs.Common.{◌≡◌, ◌⊎◌, inl, inr, ℕ, ◌<◌, ℤ, int_lt, ◌≤ℤ◌, ◌<ℤ◌, List, [], ◌∷◌, ◌++◌, length, set, Bool, true, false, not, Option, Some, None, Result, Ok, IfSome, refl, sym, subst, ◌∙◌, arith}
use Rattle.std.proofs.lemmas.List.{length-set, get_or-set_same, get_or-set_other}
use Rattle.std.proofs.lemmas.List.Elements.{All-set}
use Rattle.std.proofs.lemmas.Int.{ints, clamps}
use Rattle.std.specs.Int.{int_min, int_max}
use Rattle.pst_base.specs.declared.memory.NoMemory.{NoMemory}
use Rattle.pst_expr.specs.declared.ranges.Span.{Span}
use Rattle.pst_expr.specs.Spans.{IsInSpan}
use Rattle.pst_expr.specs.Value.{variable_value}
use Rattle.pst_domain.specs.Bounds.{bound_of, AreUpright, AreWithin, IsInside, Holds}
use Rattle.pst_narrow.specs.declared.trail.Former.{Former}
use Rattle.pst_narrow.specs.Narrowing.{Narrows, IsStep, HaveNone, LiesIn, IsIn}
use Rattle.pst_narrow.proofs.TrailLemmas.{extends_refl, extends_then, extends_set}

pub inside_self : (a : Option Span) → IsInside a a
inside_self None = tt
inside_self (Some s) = (omega (arith, ints), omega (arith, ints))

pub inside_then : (a b c : Option Span) → IsInside a b → IsInside b c → IsInside a c
inside_then None b c h k = tt
inside_then (Some s) None c h k = absurd h
inside_then (Some s) (Some t) None h k = absurd k
inside_then (Some s) (Some t) (Some u) h k = (omega (arith, ints, h.0, k.0), omega (arith, ints, h.1, k.1))

-- no change
pub narrows_self : (P : List (Option ℤ) → Type 0) (a : List (Option Span)) → AreUpright a → Narrows P a a
narrows_self P a upright = record { count = refl; inside = λ i. inside_self (bound_of a i); upright = upright; there = λ i e. e; keeps = λ values within holds. within }

pub narrows_then : (P Q : List (Option ℤ) → Type 0) (a b c : List (Option Span)) → Narrows P a b → Narrows Q b c → ((values : List (Option ℤ)) → P values → AreWithin b values → Q values) → Narrows P a c
narrows_then P Q a b c first second follows =
    record {
      count = second.count ∙ first.count;
      inside = λ i. inside_then (bound_of c i) (bound_of b i) (bound_of a i) (second.inside i) (first.inside i);
      upright = second.upright;
      there = λ i e. first.there i (second.there i e);
      keeps = λ values within holds. let here = first.keeps values within holds in second.keeps values here (follows values holds here);
    }

pub step_self : (P : List (Option ℤ) → Type 0) (a : List (Option Span)) (t : List Former) (result : Result Bool NoMemory) → AreUpright a → (result ≡ Ok false → HaveNone P a) → IsStep P a a t t result
step_self P a t result upright none = record { narrows = narrows_self P a upright; extends = extends_refl t a; refutes = none }

pub step_then : (P Q : List (Option ℤ) → Type 0) (a b c : List (Option Span)) (t u v : List Former) (first second : Result Bool NoMemory) → IsStep P a b t u first → IsStep Q b c u v second → ((values : List (Option ℤ)) → P values → AreWithin b values → Q values) → IsStep P a c t v second
step_then P Q a b c t u v first second h k follows =
    record {
      narrows = narrows_then P Q a b c h.narrows k.narrows follows;
      extends = extends_then t u v a b c h.narrows.count h.extends k.extends;
      refutes = λ e values within holds. let here = h.narrows.keeps values within holds in k.refutes e values here (follows values holds here);
    }

-- a property that tells more
pub step_from : (P Q : List (Option ℤ) → Type 0) (a b : List (Option Span)) (t u : List Former) (result : Result Bool NoMemory) → IsStep Q a b t u result → ((values : List (Option ℤ)) → P values → AreWithin a values → Q values) → IsStep P a b t u result
step_from P Q a b t u result h follows =
    record {
      narrows = record {
        count = h.narrows.count;
        inside = h.narrows.inside;
        upright = h.narrows.upright;
        there = h.narrows.there;
        keeps = λ values within holds. h.narrows.keeps values within (follows values holds within);
      };
      extends = h.extends;
      refutes = λ e values within holds. h.refutes e values within (follows values holds within);
    }

-- ---- other bounds of one variable

pub bound_same : (a : List (Option Span)) (i : ℕ) (s : Option Span) → i < length a → bound_of (set a i s) i ≡ s
bound_same a i s below = get_or-set_same a i s None below

pub bound_other : (a : List (Option Span)) (i j : ℕ) (s : Option Span) → (j ≡ i → ⊥) → bound_of (set a i s) j ≡ bound_of a j
bound_other a i j s other = get_or-set_other a i j s None other

pub same_or_other : (i j : ℕ) → (j ≡ i) ⊎ (j ≡ i → ⊥)
same_or_other i j = grind arith

pub set_narrows : (P : List (Option ℤ) → Type 0) (a : List (Option Span)) (i : ℕ) (s : Span) → i < length a → AreUpright a → s.low ≤ℤ s.high → IsInside (Some s) (bound_of a i) → ((values : List (Option ℤ)) → P values → Holds (bound_of a i) (variable_value values i) → Holds (Some s) (variable_value values i)) → Narrows P a (set a i (Some s))
set_narrows P a i s below upright order inside keeps =
    record {
      count = length-set a i (Some s);
      inside = λ j. elim (same_or_other i j) [
        | inl e ↦ subst (λ k. IsInside (bound_of (set a i (Some s)) k) (bound_of a k)) (sym e) (subst (λ r. IsInside r (bound_of a i)) (sym (bound_same a i (Some s) below)) inside)
        | inr n ↦ subst (λ r. IsInside r (bound_of a j)) (sym (bound_other a i j (Some s) n)) (inside_self (bound_of a j))
      ];
      upright = All-set (λ b. IfSome b (λ t. t.low ≤ℤ t.high)) a i (Some s) order upright;
      there = λ j e. elim (same_or_other i j) [
        | inl same ↦ absurd (let k = subst (λ k. bound_of (set a i (Some s)) k ≡ None) same e in let m = bound_same a i (Some s) below in cc)
        | inr n ↦ sym (bound_other a i j (Some s) n) ∙ e
      ];
      keeps = λ values within holds j small. elim (same_or_other i j) [
        | inl e ↦ subst (λ k. Holds (bound_of (set a i (Some s)) k) (variable_value values k)) (sym e) (subst (λ r. Holds r (variable_value values i)) (sym (bound_same a i (Some s) below)) (keeps values holds (within i below)))
        | inr n ↦ subst (λ r. Holds r (variable_value values j)) (sym (bound_other a i j (Some s) n)) (within j (subst (λ k. j < k) (length-set a i (Some s)) small))
      ];
    }

pub step_along : (P : List (Option ℤ) → Type 0) (a b c : List (Option Span)) (t u v : List Former) (result : Result Bool NoMemory) → c ≡ b → v ≡ u → IsStep P a b t u result → IsStep P a c t v result
step_along P a b c t u v result e f h =
    subst (λ x. IsStep P a x t v result) (sym e) (subst (λ y. IsStep P a b t y result) (sym f) h)

-- ---- a cut to a span

is_in_span : (a : Option Span) (w : Span) (v : Option ℤ) → Holds a v → IsIn w v → (s : Span) → a ≡ Some s → (x : ℤ) × (v ≡ Some x) × IsInSpan x s × IsInSpan x w
is_in_span a w None h k s e = absurd k
is_in_span a w (Some x) h k s e = (x, refl, subst (λ r. Holds r (Some x)) e h, k)

pub meet_refutes : (a : List (Option Span)) (t : List Former) (i : ℕ) (w s : Span) (low high : ℤ) → i < length a → AreUpright a → bound_of a i ≡ Some s → low ≡ int_max s.low w.low → high ≡ int_min s.high w.high → high <ℤ low → IsStep (LiesIn i w) a a t t (Ok false)
meet_refutes a t i w s low high below upright is lowest highest empty =
    step_self (LiesIn i w) a t (Ok false) upright
    (λ e values within lies.
    let p = is_in_span (bound_of a i) w (variable_value values i) (within i below) lies s is in
    let at = p.2 in let wanted = p.3 in
    omega (arith, ints, clamps, at.0, at.1, wanted.0, wanted.1))

pub meet_inside : (w s : Span) (low high : ℤ) → low ≡ int_max s.low w.low → high ≡ int_min s.high w.high → IsInside (Some (record { low = low; high = high })) (Some w)
meet_inside w s low high lowest highest = (omega (arith, ints, clamps), omega (arith, ints, clamps))

pub meet_sets : (a : List (Option Span)) (t : List Former) (i : ℕ) (w s : Span) (low high : ℤ) → i < length a → AreUpright a → bound_of a i ≡ Some s → low ≡ int_max s.low w.low → high ≡ int_min s.high w.high → low ≤ℤ high → IsStep (LiesIn i w) a (set a i (Some (record { low = low; high = high }))) t (t ++ record { variable = i; bound = bound_of a i } ∷ []) (Ok true)
meet_sets a t i w s low high below upright is lowest highest order =
    record {
      narrows = set_narrows (LiesIn i w) a i (record { low = low; high = high }) below upright order
          (subst (IsInside (Some (record { low = low; high = high }))) (sym is) (omega (arith, ints, clamps), omega (arith, ints, clamps)))
          (λ values lies holds. cut_holds (bound_of a i) (variable_value values i) holds lies is);
      extends = extends_set t a i (Some (record { low = low; high = high })) below;
      refutes = λ e. absurd cc;
    }
  where
    cut_holds : (r : Option Span) (v : Option ℤ) → Holds r v → IsIn w v → r ≡ Some s → Holds (Some (record { low = low; high = high })) v
    cut_holds r None h k e = absurd k
    cut_holds r (Some x) h k e = let at : IsInSpan x s = subst (λ r. Holds r (Some x)) e h in (omega (arith, ints, clamps, at.0, at.1, k.0, k.1), omega (arith, ints, clamps, at.0, at.1, k.0, k.1))

pub by_lt : (a b : ℤ) → int_lt a b ≡ true → a <ℤ b
by_lt a b t = omega (arith, ints, t)

pub by_not_lt : (a b : ℤ) → int_lt a b ≡ false → b ≤ℤ a
by_not_lt a b t = omega (arith, ints, t)

-- a step that went well
pub step_true : (P : List (Option ℤ) → Type 0) (a b : List (Option Span)) (t u : List Former) (result : Result Bool NoMemory) → IsStep P a b t u result → IsStep P a b t u (Ok true)
step_true P a b t u result h = record { narrows = h.narrows; extends = h.extends; refutes = λ e. absurd cc }

-- a step told of another result that isn't false
pub step_err : (P : List (Option ℤ) → Type 0) (a b : List (Option Span)) (t u : List Former) (result other : Result Bool NoMemory) → (other ≡ Ok false → ⊥) → IsStep P a b t u result → IsStep P a b t u other
step_err P a b t u result other not_false h = record { narrows = h.narrows; extends = h.extends; refutes = λ e. absurd (not_false e) }

-- the same result, told otherwise
pub step_as : (P : List (Option ℤ) → Type 0) (a b : List (Option Span)) (t u : List Former) (result other : Result Bool NoMemory) → result ≡ other → IsStep P a b t u result → IsStep P a b t u other
step_as P a b t u result other e h = subst (λ r. IsStep P a b t u r) e h

pub not_is_true : (b : Bool) → not b ≡ true → b ≡ false
not_is_true true e = absurd cc
not_is_true false e = refl

pub not_is_false : (b : Bool) → not b ≡ false → b ≡ true
not_is_false true e = refl
not_is_false false e = absurd cc

pub ok_not_false : (b : Bool) → (let r : Result Bool NoMemory = Ok (not b) in r ≡ Ok false) → b ≡ true
ok_not_false true e = refl
ok_not_false false e = absurd cc
