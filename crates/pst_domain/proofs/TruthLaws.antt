-- What a truth allows, and the spans of the logical operators.
use Rattle.std.proofs.Common.{◌≡◌, ℤ, pos, ◌≤ℤ◌, int_le, Bool, true, false, cond, not, Option, Some, None, option_map, arith, refl, sym, ap, subst}
use Rattle.std.specs.Ordering.{int_eq}
use Rattle.std.proofs.lemmas.Int.{ints}
use Rattle.std.proofs.lemmas.Bool.{and_parts}
use Rattle.pst_expr.specs.declared.ranges.Span.{Span}
use Rattle.pst_expr.specs.Spans.{IsInSpan}
use Rattle.pst_expr.specs.Value.{is_false, number_of}
use Rattle.pst_domain.specs.declared.truth.Truth.{Truth}
use Rattle.pst_domain.specs.declared.truth.Truth.TheVariants.{False, True, Either}
use Rattle.pst_domain.specs.Bounds.{Holds, IsInside}
use Rattle.pst_domain.specs.Truth.{has_zero, is_zero, truth_of_span, truth_of, span_of_truth}
use Rattle.pst_domain.proofs.Decisions.{by_le, le_test, by_equality, equal_test}
use Rattle.pst_domain.proofs.CutLaws.{IsSane, Sane, inside_holds}

-- a truth allows a true or a false number
abbrev pub may : Option Truth → Bool → Bool
may None v = false
may (Some Either) v = true
may (Some True) v = v
may (Some False) v = not v

abbrev pub is_true : ℤ → Bool
is_true x = not (is_false x)

-- ---- the span of a truth

pub number_held : (w : Option Truth) (v : Bool) → may w v ≡ true → Holds (option_map span_of_truth w) (Some (number_of v))
number_held None v h = absurd cc
number_held (Some Either) true h = (omega (arith, ints), omega (arith, ints))
number_held (Some Either) false h = (omega (arith, ints), omega (arith, ints))
number_held (Some True) true h = (omega (arith, ints), omega (arith, ints))
number_held (Some True) false h = absurd cc
number_held (Some False) true h = absurd cc
number_held (Some False) false h = (omega (arith, ints), omega (arith, ints))

abbrev pub AllowsLess : Option Truth → Option Truth → Type 0
AllowsLess w u = (v : Bool) → may w v ≡ true → may u v ≡ true

pub truth_inside : (w u : Option Truth) → AllowsLess w u → IsInside (option_map span_of_truth w) (option_map span_of_truth u)
truth_inside None u h = tt
truth_inside (Some True) None h = absurd (let k : false ≡ true = h true refl in cc)
truth_inside (Some True) (Some True) h = (omega (arith, ints), omega (arith, ints))
truth_inside (Some True) (Some False) h = absurd (let k : false ≡ true = h true refl in cc)
truth_inside (Some True) (Some Either) h = (omega (arith, ints), omega (arith, ints))
truth_inside (Some False) None h = absurd (let k : false ≡ true = h false refl in cc)
truth_inside (Some False) (Some True) h = absurd (let k : false ≡ true = h false refl in cc)
truth_inside (Some False) (Some False) h = (omega (arith, ints), omega (arith, ints))
truth_inside (Some False) (Some Either) h = (omega (arith, ints), omega (arith, ints))
truth_inside (Some Either) None h = absurd (let k : false ≡ true = h true refl in cc)
truth_inside (Some Either) (Some True) h = absurd (let k : false ≡ true = h false refl in cc)
truth_inside (Some Either) (Some False) h = absurd (let k : false ≡ true = h true refl in cc)
truth_inside (Some Either) (Some Either) h = (omega (arith, ints), omega (arith, ints))

pub truth_sane : (w : Option Truth) → Sane (option_map span_of_truth w)
truth_sane None = tt
truth_sane (Some True) = record { from_least = omega (arith, ints); upright = omega (arith, ints); to_greatest = omega (arith, ints) }
truth_sane (Some False) = record { from_least = omega (arith, ints); upright = omega (arith, ints); to_greatest = omega (arith, ints) }
truth_sane (Some Either) = record { from_least = omega (arith, ints); upright = omega (arith, ints); to_greatest = omega (arith, ints) }

-- ---- the truth of a span allows exactly what numbers of the span are

abbrev pub HasZero : Span → Type 0
HasZero s = (s.low ≤ℤ pos 0) × (pos 0 ≤ℤ s.high)

abbrev pub IsZero : Span → Type 0
IsZero s = (s.low ≡ pos 0) × (s.high ≡ pos 0)

truth_cases : (P : Truth → Type 0) (s : Span) → ((HasZero s → ⊥) → P True) → (IsZero s → P False) → (HasZero s → (IsZero s → ⊥) → P Either) → P (truth_of_span s)
truth_cases P s others zeros both = go (has_zero s) refl (is_zero s) refl
  where
    go : (a : Bool) → has_zero s ≡ a → (b : Bool) → is_zero s ≡ b → P (cond (not a) True (cond b False Either))
    go false e b f = others (λ h. let k : has_zero s ≡ true = rw (le_test s.low (pos 0) h.0, le_test (pos 0) s.high h.1) refl in cc)
    go true e true f = let p = and_parts (int_eq s.low (pos 0)) (int_eq s.high (pos 0)) f in zeros (by_equality s.low (pos 0) p.0, by_equality s.high (pos 0) p.1)
    go true e false f =
        let p = and_parts (int_le s.low (pos 0)) (int_le (pos 0) s.high) e in
        both (by_le s.low (pos 0) p.0, by_le (pos 0) s.high p.1)
        (λ z. let k : is_zero s ≡ true = rw (equal_test s.low (pos 0) z.0, equal_test s.high (pos 0) z.1) refl in cc)

zero_is_false : (x : ℤ) → x ≡ pos 0 → is_true x ≡ false
zero_is_false x e = rw (equal_test x (pos 0) e) refl

other_is_true : (x : ℤ) → (x ≡ pos 0 → ⊥) → is_true x ≡ true
other_is_true x h = go (is_false x) refl
  where
    go : (b : Bool) → is_false x ≡ b → not b ≡ true
    go true e = absurd (h (by_equality x (pos 0) e))
    go false e = refl

pub may_hold : (r : Option Span) (x : ℤ) → Holds r (Some x) → may (truth_of r) (is_true x) ≡ true
may_hold None x h = absurd h
may_hold (Some s) x h =
    truth_cases (λ w. may (Some w) (is_true x) ≡ true) s
    (λ o. other_is_true x (λ e. o (omega (arith, ints, e, h.0), omega (arith, ints, e, h.1))))
    (λ z. ap not (zero_is_false x (omega (arith, ints, z.0, z.1, h.0, h.1))))
    (λ z o. refl)

-- a number of the span with that truth
pub record Witness (s : Span) (v : Bool) : Type 0 where
  pub number : ℤ
  pub inside : IsInSpan number s
  pub has : is_true number ≡ v

pub witness : (s : Span) (v : Bool) → IsSane s → may (Some (truth_of_span s)) v ≡ true → Witness s v
witness s v p h = truth_cases (λ w. may (Some w) v ≡ true → Witness s v) s others zeros both h
  where
    at_low : (s.low ≡ pos 0 → ⊥) → Witness s true
    at_low o = record { number = s.low; inside = (omega (arith, ints), p.upright); has = other_is_true s.low o }

    at_high : (s.high ≡ pos 0 → ⊥) → Witness s true
    at_high o = record { number = s.high; inside = (p.upright, omega (arith, ints)); has = other_is_true s.high o }

    at_zero : HasZero s → Witness s false
    at_zero z = record { number = pos 0; inside = z; has = refl }

    others : (HasZero s → ⊥) → v ≡ true → Witness s v
    others o e = subst (Witness s) (sym e) (at_low (λ z. o (omega (arith, ints, z), omega (arith, ints, z, p.upright))))

    zeros : IsZero s → not v ≡ true → Witness s v
    zeros z e = go v e
      where
        go : (u : Bool) → not u ≡ true → Witness s u
        go true f = absurd cc
        go false f = at_zero (omega (arith, ints, z.0), omega (arith, ints, z.1))

    both : HasZero s → (IsZero s → ⊥) → true ≡ true → Witness s v
    both z o e = go v (int_eq s.low (pos 0)) refl
      where
        go : (u : Bool) (b : Bool) → int_eq s.low (pos 0) ≡ b → Witness s u
        go false b f = at_zero z
        go true true f = at_high (λ g. o (by_equality s.low (pos 0) f, g))
        go true false f = at_low (λ g. let k = equal_test s.low (pos 0) g in cc)

pub may_inside : (r q : Option Span) → Sane r → IsInside r q → AllowsLess (truth_of r) (truth_of q)
may_inside None q m h v k = absurd cc
may_inside (Some s) q m h v k =
    let w = witness s v m k in
    subst (λ b. may (truth_of q) b ≡ true) w.has (may_hold q w.number (inside_holds (Some s) q (Some w.number) h w.inside))
