-- Numbers that leave a wanted residue, and remainders.
use Rattle.std.proofs.Common.{◌≡◌, ◌⊎◌, ⊎_elim, ℕ, zero, suc, ◌%◌, ◌<◌, ◌≤◌, ℤ, pos, negsuc, neg_ℤ, nat_abs, ◌+ℤ◌, ◌-ℤ◌, ◌*ℤ◌, ◌≤ℤ◌, ◌<ℤ◌, int_div, int_rem, Option, Some, None, IfSome, arith, refl, sym, ap, subst, ◌∙◌}
use Rattle.std.proofs.lemmas.Int.{ints, rem_below}
use Rattle.std.proofs.Math.Nat.{mod-le, zero-mod}
use Rattle.std.proofs.Math.IntN.{neg_ℤ-neg_ℤ}
use Rattle.pst_num.specs.Arithmetic.{negation_of}
use Rattle.pst_num.specs.Laws.{IsTruncated, RoundsTowardsZero}
use Rattle.pst_expr.specs.declared.ranges.Span.{Span}
use Rattle.pst_expr.specs.Spans.{IsInSpan}
use Rattle.pst_operands.specs.Residues.{IsResidue, IsMirrored, IsDistance}
use Rattle.pst_operands.proofs.Exactly.{exact}
use Rattle.pst_operands.proofs.Products.{weaker, up_left, more_times, less_times}
use Rattle.pst_operands.proofs.Divisions.{near_positive, at_most_or_more, at_most_less_or}

pub residue_of : (x m : ℤ) → IsTruncated x m → pos 0 ≤ℤ x → pos 0 <ℤ m → IsResidue m x (int_rem x m)
residue_of x m t h k = record { multiple = int_div x m; adds_up = t.adds_up; from_zero = t.not_below h; below = (near_positive (int_rem x m) m t.small k).1 }

-- ---- sums of plain numbers

sum_ordered : (p p0 z l x s : ℤ) → p0 ≤ℤ p → l ≤ℤ z → (p +ℤ z) ≡ x → s ≡ p0 +ℤ l → s ≤ℤ x
sum_ordered p p0 z l x s h k e f = omega (arith, ints)

sum_ordered_up : (p p1 z h x s : ℤ) → p ≤ℤ p1 → z ≤ℤ h → (p +ℤ z) ≡ x → s ≡ p1 +ℤ h → x ≤ℤ s
sum_ordered_up p p1 z h x s k l e f = omega (arith, ints)

too_low : (p p0 z r m low x : ℤ) → (p +ℤ z) ≡ x → (p0 +ℤ r) ≡ low → (p +ℤ m) ≤ℤ p0 → z <ℤ m → pos 0 ≤ℤ r → low ≤ℤ x → ⊥
too_low p p0 z r m low x e f h k l n = omega (arith, ints)

left_over : (p p0 z r h low x : ℤ) → (p +ℤ z) ≡ x → (p0 +ℤ r) ≡ low → p ≤ℤ p0 → z ≤ℤ h → h <ℤ r → low ≤ℤ x → ⊥
left_over p p0 z r h low x e f k l n o = omega (arith, ints)

left_under : (p p1 z r l high x : ℤ) → (p +ℤ z) ≡ x → (p1 +ℤ r) ≡ high → p1 ≤ℤ p → l ≤ℤ z → r <ℤ l → x ≤ℤ high → ⊥
left_under p p1 z r l high x e f k n o q = omega (arith, ints)

start_is : (p0 r l low s : ℤ) → (p0 +ℤ r) ≡ low → s ≡ (low -ℤ r) +ℤ l → s ≡ p0 +ℤ l
start_is p0 r l low s e f = omega (arith, ints)

next_start : (p p0 m z l x s : ℤ) → (p0 +ℤ m) ≤ℤ p → l ≤ℤ z → (p +ℤ z) ≡ x → s ≡ p0 +ℤ l → (s +ℤ m) ≤ℤ x
next_start p p0 m z l x s h k e f = omega (arith, ints)

last_end : (p p1 s1 m z h x s : ℤ) → p ≤ℤ s1 → (s1 +ℤ m) ≡ p1 → z ≤ℤ h → (p +ℤ z) ≡ x → s ≡ p1 +ℤ h → x ≤ℤ (s -ℤ m)
last_end p p1 s1 m z h x s k n l e f = omega (arith, ints)

-- ---- the first and the last number with a residue

module _ (m end r x z : ℤ) (g : pos 0 <ℤ m) (k : IsResidue m end r) (d : IsResidue m x z) where
  abbrev q : ℤ
  q = d.multiple

  abbrev q0 : ℤ
  q0 = k.multiple

  pub not_earlier : end ≤ℤ x → q0 ≤ℤ q
  not_earlier h =
      ⊎_elim
      (λ l.
      let next : ((q *ℤ m) +ℤ m) ≤ℤ (q0 *ℤ m) = subst (λ v. v ≤ℤ (q0 *ℤ m)) (more_times q m) (up_left (q +ℤ pos 1) q0 m l (weaker (pos 0) m g)) in
      absurd (too_low (q *ℤ m) (q0 *ℤ m) z r m end x d.adds_up k.adds_up next d.below k.from_zero h))
      (λ l. l)
      (more_or_at_most q0 q)
    where
      more_or_at_most : (a b : ℤ) → ((b +ℤ pos 1) ≤ℤ a) ⊎ (a ≤ℤ b)
      more_or_at_most a b = grind (arith, ints)

  pub not_later : x ≤ℤ end → q ≤ℤ q0
  not_later h =
      ⊎_elim (λ l. l)
      (λ l.
      let next : ((q0 *ℤ m) +ℤ m) ≤ℤ (q *ℤ m) = subst (λ v. v ≤ℤ (q *ℤ m)) (more_times q0 m) (up_left (q0 +ℤ pos 1) q m l (weaker (pos 0) m g)) in
      absurd (too_low (q0 *ℤ m) (q *ℤ m) r z m x end k.adds_up d.adds_up next k.below d.from_zero h))
      (at_most_or_more q q0)

  pub from_same : (l s : ℤ) → end ≤ℤ x → l ≤ℤ z → s ≡ (end -ℤ r) +ℤ l → s ≤ℤ x
  from_same l s h lower e =
      sum_ordered (q *ℤ m) (q0 *ℤ m) z l x s (up_left q0 q m (not_earlier h) (weaker (pos 0) m g)) lower d.adds_up (start_is (q0 *ℤ m) r l end s k.adds_up e)

  pub from_next : (l h s : ℤ) → end ≤ℤ x → l ≤ℤ z → z ≤ℤ h → h <ℤ r → s ≡ (end -ℤ r) +ℤ l → (s +ℤ m) ≤ℤ x
  from_next l h s order lower upper over e =
      ⊎_elim
      (λ n. absurd (left_over (q *ℤ m) (q0 *ℤ m) z r h end x d.adds_up k.adds_up (up_left q q0 m n (weaker (pos 0) m g)) upper over order))
      (λ n.
      let next : ((q0 *ℤ m) +ℤ m) ≤ℤ (q *ℤ m) = subst (λ v. v ≤ℤ (q *ℤ m)) (more_times q0 m) (up_left (q0 +ℤ pos 1) q m n (weaker (pos 0) m g)) in
      next_start (q *ℤ m) (q0 *ℤ m) m z l x s next lower d.adds_up (start_is (q0 *ℤ m) r l end s k.adds_up e))
      (at_most_or_more q q0)

  pub to_same : (h s : ℤ) → x ≤ℤ end → z ≤ℤ h → s ≡ (end -ℤ r) +ℤ h → x ≤ℤ s
  to_same h s order upper e =
      sum_ordered_up (q *ℤ m) (q0 *ℤ m) z h x s (up_left q q0 m (not_later order) (weaker (pos 0) m g)) upper d.adds_up (start_is (q0 *ℤ m) r h end s k.adds_up e)

  pub to_last : (l h s : ℤ) → x ≤ℤ end → l ≤ℤ z → z ≤ℤ h → r <ℤ l → s ≡ (end -ℤ r) +ℤ h → x ≤ℤ (s -ℤ m)
  to_last l h s order lower upper least e =
      ⊎_elim
      (λ n. last_end (q *ℤ m) (q0 *ℤ m) ((q0 -ℤ pos 1) *ℤ m) m z h x s (up_left q (q0 -ℤ pos 1) m n (weaker (pos 0) m g)) (less_times q0 m) upper d.adds_up (start_is (q0 *ℤ m) r h end s k.adds_up e))
      (λ n. absurd (left_under (q *ℤ m) (q0 *ℤ m) z r l end x d.adds_up k.adds_up (up_left q0 q m n (weaker (pos 0) m g)) lower least order))
      (at_most_less_or q q0)

-- ---- remainders

-- a remainder lies between 0 and the dividend
pub positive_rest : (x y : ℤ) → pos 0 <ℤ int_rem x y → int_rem x y ≤ℤ x
positive_rest (pos n) y h = omega (arith, ints, mod-le n (nat_abs y))
positive_rest (negsuc n) y h = absurd (not_positive (suc n % nat_abs y) h)
  where
    not_positive : (m : ℕ) → pos 0 <ℤ neg_ℤ (pos m) → ⊥
    not_positive m h = omega (arith, ints)

pub negative_rest : (x y : ℤ) → int_rem x y <ℤ pos 0 → x ≤ℤ int_rem x y
negative_rest (pos n) y h = absurd (omega (arith, ints))
negative_rest (negsuc n) y h = not_below (suc n % nat_abs y) n (mod-le (suc n) (nat_abs y))
  where
    not_below : (m k : ℕ) → m ≤ suc k → negsuc k ≤ℤ neg_ℤ (pos m)
    not_below m k h = omega (arith, ints)

-- a divisor is farther from 0 than what it leaves
pub over_rest : (x y l : ℤ) → (y ≡ pos 0 → ⊥) → pos 0 ≤ℤ y → l ≤ℤ int_rem x y → l <ℤ y
over_rest x y l some h k = after (int_rem x y) y l (rem_below x y (distant y some)) h k
  where
    distant : (y : ℤ) → (y ≡ pos 0 → ⊥) → 0 < nat_abs y
    distant (pos zero) n = absurd (n refl)
    distant (pos (suc m)) n = omega arith
    distant (negsuc m) n = omega arith

    after : (r y l : ℤ) → nat_abs r < nat_abs y → pos 0 ≤ℤ y → l ≤ℤ r → l <ℤ y
    after r y l s h k = omega (arith, ints)

pub under_rest : (x y l : ℤ) → (y ≡ pos 0 → ⊥) → y ≤ℤ pos 0 → l ≤ℤ int_rem x y → y <ℤ neg_ℤ l
under_rest x y l some h k = before (int_rem x y) y l (rem_below x y (distant y some)) h k
  where
    distant : (y : ℤ) → (y ≡ pos 0 → ⊥) → 0 < nat_abs y
    distant (pos zero) n = absurd (n refl)
    distant (pos (suc m)) n = omega arith
    distant (negsuc m) n = omega arith

    before : (r y l : ℤ) → nat_abs r < nat_abs y → y ≤ℤ pos 0 → l ≤ℤ r → y <ℤ neg_ℤ l
    before r y l s h k = omega (arith, ints)

-- ---- residues by the distance of a divisor from 0, on either side of 0

by_distance : (x d m : ℤ) → nat_abs d ≡ nat_abs m → int_rem x d ≡ int_rem x m
by_distance (pos n) d m e = ap (λ k. pos (n % k)) e
by_distance (negsuc n) d m e = ap (λ k. neg_ℤ (pos (suc n % k))) e

same_distance : (d m : ℤ) → m ≡ pos (nat_abs d) → nat_abs d ≡ nat_abs m
same_distance d m e = sym (ap nat_abs e)

turned_rest : (x m : ℤ) → x ≤ℤ pos 0 → int_rem (neg_ℤ x) m ≡ neg_ℤ (int_rem x m)
turned_rest (pos zero) m h = zero_rest m
  where
    no_rest : (k : ℕ) → neg_ℤ (pos (zero % k)) ≡ pos (zero % k)
    no_rest k = let e : zero % k ≡ zero = zero-mod k in ap (λ n. neg_ℤ (pos n)) e ∙ sym (ap pos e)

    zero_rest : (m : ℤ) → pos (zero % nat_abs m) ≡ neg_ℤ (pos (zero % nat_abs m))
    zero_rest m = sym (no_rest (nat_abs m))
turned_rest (pos (suc n)) m h = absurd (omega (arith, ints))
turned_rest (negsuc n) m h = sym (neg_ℤ-neg_ℤ (pos (suc n % nat_abs m)))

some_positive : (m : ℤ) → pos 0 <ℤ m → m ≡ pos 0 → ⊥
some_positive m h e = omega (arith, ints)

turned_up : (x : ℤ) → x ≤ℤ pos 0 → pos 0 ≤ℤ neg_ℤ x
turned_up x h = omega (arith, ints)

module _ (law : RoundsTowardsZero) (x d m : ℤ) (g : pos 0 <ℤ m) (e : m ≡ pos (nat_abs d)) where
  pub residue_by : pos 0 ≤ℤ x → IsResidue m x (int_rem x d)
  residue_by h = subst (IsResidue m x) (sym (by_distance x d m (same_distance d m e))) (residue_of x m (law x m (some_positive m g)) h g)

  pub turned_residue_by : x ≤ℤ pos 0 → IsResidue m (neg_ℤ x) (neg_ℤ (int_rem x d))
  turned_residue_by h =
      subst (IsResidue m (neg_ℤ x)) (turned_rest x m h ∙ sym (ap neg_ℤ (by_distance x d m (same_distance d m e))))
      (residue_of (neg_ℤ x) m (law (neg_ℤ x) m (some_positive m g)) (turned_up x h) g)

-- ---- spans on the other side of 0

pub turned_in : (s t : Span) (x : ℤ) → IsMirrored s t → IsInSpan x s → IsInSpan (neg_ℤ x) t
turned_in s t x m h = let a = m.low in let b = m.high in (omega (arith, ints, a, h.1), omega (arith, ints, b, h.0))

pub turned_back : (s t : Span) (x : ℤ) → IsMirrored s t → IsInSpan (neg_ℤ x) s → IsInSpan x t
turned_back s t x m h = let a = m.low in let b = m.high in (omega (arith, ints, a, h.1), omega (arith, ints, b, h.0))

pub either_side : (x : ℤ) → (x ≤ℤ pos 0) ⊎ (pos 0 ≤ℤ x)
either_side x = grind (arith, ints)

-- ---- the distance from 0

pub distance_above : (n : ℤ) → pos 0 <ℤ n → IsDistance n n
distance_above n h = record { positive = h; distance = abs_is n h }
  where
    abs_is : (n : ℤ) → pos 0 <ℤ n → n ≡ pos (nat_abs n)
    abs_is n h = omega (arith, ints)

pub distance_below : (n : ℤ) (r : Option ℤ) → n <ℤ pos 0 → r ≡ negation_of n → IfSome r (λ m. IsDistance n m)
distance_below n None h e = tt
distance_below n (Some m) h e = at (exact (neg_ℤ n) m (sym e))
  where
    at : neg_ℤ n ≡ m → IsDistance n m
    at is = record { positive = omega (arith, ints, is, h); distance = omega (arith, ints, is, h) }
