-- Shifts of spans follow those of values.
use Rattle.std.proofs.Common.{◌≡◌, ◌⊎◌, ⊎_elim, inl, inr, ℤ, pos, negsuc, ◌<ℤ◌, int_lt, nat_lt, Bool, true, false, cond, ◌||◌, Option, Some, None, arith, refl}
use Rattle.std.proofs.lemmas.Int.{ints}
use Rattle.std.proofs.lemmas.Bool.Decides.{nat_tests}
use Rattle.pst_num.specs.Shifts.{shifted_left, shifted_right}
use Rattle.pst_expr.specs.declared.ranges.Span.{Span}
use Rattle.pst_domain.specs.Bounds.{Holds, IsInside}
use Rattle.pst_domain.specs.Cut.{whole}
use Rattle.pst_domain.specs.Shifts.{shift_by_some, shift_span}
use Rattle.pst_domain.proofs.Decisions.{some_of, neither}
use Rattle.pst_domain.proofs.CutLaws.{IsSane, Sane, InRange, whole_holds, whole_sane, inside_self}
use Rattle.pst_domain.proofs.Lawful.{IsLawful}
use Rattle.pst_domain.proofs.PointLaws.{points_lawful}

-- counts on one side of 0 to 63
abbrev pub AreOutside : Span → Type 0
AreOutside t = (t.high <ℤ pos 0) ⊎ (pos 63 <ℤ t.low)

outside_by_test : (t : Span) → (int_lt t.high (pos 0) || int_lt (pos 63) t.low) ≡ true → AreOutside t
outside_by_test t e =
    ⊎_elim
    (λ l. inl (omega (arith, ints, l)))
    (λ l. inr (omega (arith, ints, l)))
    (some_of (int_lt t.high (pos 0)) (int_lt (pos 63) t.low) e)

some_cases : (P : Option Span → Type 0) (t : Span) → (AreOutside t → P None) → ((AreOutside t → ⊥) → P whole) → P (shift_by_some t)
some_cases P t outside others = go (int_lt t.high (pos 0) || int_lt (pos 63) t.low) refl
  where
    go : (b : Bool) → (int_lt t.high (pos 0) || int_lt (pos 63) t.low) ≡ b → P (cond b None whole)
    go true e = outside (outside_by_test t e)
    go false e =
        let n = neither (int_lt t.high (pos 0)) (int_lt (pos 63) t.low) e in
        others (⊎_elim (λ l. omega (arith, ints, n.0)) (λ l. omega (arith, ints, n.1)))

-- a shift by a count outside 0 to 63 gives nothing
abbrev pub GivesNoneOutside : (ℤ → ℤ → Option ℤ) → Type 0
GivesNoneOutside f = (x y : ℤ) → (y <ℤ pos 0) ⊎ (pos 63 <ℤ y) → f x y ≡ None

not_below_64 : (n : _) → pos 63 <ℤ pos n → nat_lt n 64 ≡ false
not_below_64 n h = grind (arith, ints, nat_tests)

left_outside : GivesNoneOutside shifted_left
left_outside x (pos n) (inl h) = absurd (omega (arith, ints))
left_outside x (pos n) (inr h) = rw (not_below_64 n h) refl
left_outside x (negsuc n) h = refl

right_outside : GivesNoneOutside shifted_right
right_outside x (pos n) (inl h) = absurd (omega (arith, ints))
right_outside x (pos n) (inr h) = rw (not_below_64 n h) refl
right_outside x (negsuc n) h = refl

none_held : (r : Option Span) (v : Option ℤ) → v ≡ None → Holds r v
none_held r None e = tt
none_held r (Some v) e = absurd cc

pub held_by_whole : (v : Option ℤ) → InRange v → Holds whole v
held_by_whole None i = tt
held_by_whole (Some v) i = whole_holds v i

inner_outside : (t t' : Span) → IsSane t' → IsInside (Some t') (Some t) → AreOutside t → AreOutside t'
inner_outside t t' q k (inl h) = inl (omega (arith, ints, k.1))
inner_outside t t' q k (inr h) = inr (omega (arith, ints, k.0))

some_lawful : (f : ℤ → ℤ → Option ℤ) → GivesNoneOutside f → IsLawful f (λ s t. shift_by_some t)
some_lawful f none = record {
  holds = λ s t x y p q h k i.
      some_cases (λ b. Holds b (f x y)) t
      (λ o. none_held None (f x y) (none x y (⊎_elim (λ l. inl (omega (arith, ints, k.1))) (λ l. inr (omega (arith, ints, k.0))) o)))
      (λ o. held_by_whole (f x y) i);
  inside = λ s t s' t' p q p' q' h k.
      some_cases (λ b. IsInside (shift_by_some t') b) t
      (λ o. some_cases (λ b. IsInside b None) t' (λ o'. tt) (λ o'. absurd (o' (inner_outside t t' q' k o))))
      (λ o. some_cases (λ b. IsInside b whole) t' (λ o'. tt) (λ o'. inside_self whole));
  sane = λ s t p q. some_cases Sane t (λ o. tt) (λ o. whole_sane);
}

pub left_lawful : IsLawful shifted_left (shift_span shifted_left)
left_lawful = points_lawful shifted_left (λ s t. shift_by_some t) (some_lawful shifted_left left_outside)

pub right_lawful : IsLawful shifted_right (shift_span shifted_right)
right_lawful = points_lawful shifted_right (λ s t. shift_by_some t) (some_lawful shifted_right right_outside)
