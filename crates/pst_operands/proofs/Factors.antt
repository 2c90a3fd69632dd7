-- What a cut keeps of the factors of wanted products.
use Rattle.std.proofs.Common.{◌≡◌, ℕ, zero, suc, ◌+◌, ◌*◌, ◌<◌, ◌≤◌, max, ℤ, pos, negsuc, neg_ℤ, nat_abs, ◌*ℤ◌, ◌≤ℤ◌, ◌<ℤ◌, Option, Some, arith, refl, sym, ap, subst, ◌∙◌}
use Rattle.std.proofs.lemmas.Int.{ints, unsigned_abs-mul}
use Rattle.std.proofs.Math.IntN.{*ℤ_comm, zero-*ℤ}
use Rattle.pst_num.specs.Range.{in_range}
use Rattle.pst_num.specs.Arithmetic.{product_of}
use Rattle.pst_expr.specs.declared.ranges.Span.{Span}
use Rattle.pst_expr.specs.Spans.{IsInSpan}
use Rattle.pst_operands.specs.Keeps.{Keeps, KeepsLeft, KeepsRight}
use Rattle.pst_operands.proofs.Exactly.{exact, same_order}
use Rattle.pst_operands.proofs.Products.{le_le, lt_le, le_lt, low_by_greater, low_by_lesser, high_by_greater, high_by_lesser, low_by_lower, low_by_nearer, high_by_lower, high_by_nearer}

-- a wanted product lies between the ends
from_low : (x y z : ℤ) (w : Span) → product_of x y ≡ Some z → IsInSpan z w → w.low ≤ℤ (x *ℤ y)
from_low x y z w e m = le_le w.low z (x *ℤ y) m.0 (same_order z (x *ℤ y) (sym (exact (x *ℤ y) z e)))

to_high : (x y z : ℤ) (w : Span) → product_of x y ≡ Some z → IsInSpan z w → (x *ℤ y) ≤ℤ w.high
to_high x y z w e m = le_le (x *ℤ y) z w.high (same_order (x *ℤ y) z (exact (x *ℤ y) z e)) m.1

module _ (s t w new : Span) (r : ℤ) where
  module _ (g : pos 0 <ℤ t.low) where
    pub low_greater : pos 0 <ℤ w.low → ((x : ℤ) → w.low ≤ℤ (x *ℤ t.high) → r ≤ℤ x) → Keeps (λ x. r ≤ℤ x) s new → KeepsLeft product_of s t w new
    low_greater k bound cut x y z h l m e = cut x h (bound x (low_by_greater x y (lt_le (pos 0) t.low y g l.0) t.high w.low l.1 k (from_low x y z w e m)))

    pub low_lesser : w.low ≤ℤ pos 0 → ((x : ℤ) → w.low ≤ℤ (x *ℤ t.low) → r ≤ℤ x) → Keeps (λ x. r ≤ℤ x) s new → KeepsLeft product_of s t w new
    low_lesser k bound cut x y z h l m e = cut x h (bound x (low_by_lesser x y (lt_le (pos 0) t.low y g l.0) t.low w.low g l.0 k (from_low x y z w e m)))

    pub high_greater : w.high <ℤ pos 0 → ((x : ℤ) → (x *ℤ t.high) ≤ℤ w.high → x ≤ℤ r) → Keeps (λ x. x ≤ℤ r) s new → KeepsLeft product_of s t w new
    high_greater k bound cut x y z h l m e = cut x h (bound x (high_by_greater x y (lt_le (pos 0) t.low y g l.0) t.high w.high l.1 k (to_high x y z w e m)))

    pub high_lesser : pos 0 ≤ℤ w.high → ((x : ℤ) → (x *ℤ t.low) ≤ℤ w.high → x ≤ℤ r) → Keeps (λ x. x ≤ℤ r) s new → KeepsLeft product_of s t w new
    high_lesser k bound cut x y z h l m e = cut x h (bound x (high_by_lesser x y (lt_le (pos 0) t.low y g l.0) t.low w.high g l.0 k (to_high x y z w e m)))

  module _ (g : t.high <ℤ pos 0) where
    pub high_lower : pos 0 <ℤ w.low → ((x : ℤ) → w.low ≤ℤ (x *ℤ t.low) → x ≤ℤ r) → Keeps (λ x. x ≤ℤ r) s new → KeepsLeft product_of s t w new
    high_lower k bound cut x y z h l m e = cut x h (bound x (low_by_lower x y (le_lt y t.high (pos 0) l.1 g) t.low w.low l.0 k (from_low x y z w e m)))

    pub high_nearer : w.low ≤ℤ pos 0 → ((x : ℤ) → w.low ≤ℤ (x *ℤ t.high) → x ≤ℤ r) → Keeps (λ x. x ≤ℤ r) s new → KeepsLeft product_of s t w new
    high_nearer k bound cut x y z h l m e = cut x h (bound x (low_by_nearer x y (le_lt y t.high (pos 0) l.1 g) t.high w.low g l.1 k (from_low x y z w e m)))

    pub low_lower : w.high <ℤ pos 0 → ((x : ℤ) → (x *ℤ t.low) ≤ℤ w.high → r ≤ℤ x) → Keeps (λ x. r ≤ℤ x) s new → KeepsLeft product_of s t w new
    low_lower k bound cut x y z h l m e = cut x h (bound x (high_by_lower x y (le_lt y t.high (pos 0) l.1 g) t.low w.high l.0 k (to_high x y z w e m)))

    pub low_nearer : pos 0 ≤ℤ w.high → ((x : ℤ) → (x *ℤ t.high) ≤ℤ w.high → r ≤ℤ x) → Keeps (λ x. r ≤ℤ x) s new → KeepsLeft product_of s t w new
    low_nearer k bound cut x y z h l m e = cut x h (bound x (high_by_nearer x y (le_lt y t.high (pos 0) l.1 g) t.high w.high g l.1 k (to_high x y z w e m)))

-- a cut after a cut
pub cut_then : (f : ℤ → ℤ → Option ℤ) (s t w s' s'' : Span) → KeepsLeft f s t w s' → KeepsLeft f s' t w s'' → KeepsLeft f s t w s''
cut_then f s t w s' s'' first second x y z h k l e = second x y z (first x y z h k l e) k l e

pub uncut : (f : ℤ → ℤ → Option ℤ) (s t w : Span) → KeepsLeft f s t w s
uncut f s t w x y z h k l e = h

-- the same operation with its operands exchanged
pub turned : (f : ℤ → ℤ → Option ℤ) (s t w new : Span) → ((x y z : ℤ) → f x y ≡ Some z → f y x ≡ Some z) → KeepsLeft f t s w new → KeepsRight f s t w new
turned f s t w new swap keeps x y z h k l e = keeps y x z k h l (swap x y z e)

pub product_turned : (x y z : ℤ) → product_of x y ≡ Some z → product_of y x ≡ Some z
product_turned x y z e = subst (λ p. in_range p ≡ Some z) (*ℤ_comm x y) e

-- ---- products other than 0

distances : (m n k : ℕ) → m * n ≡ k → 0 < k → m ≤ k
distances m n k e h = go n e
  where
    go : (n : ℕ) → m * n ≡ k → m ≤ k
    go zero e = absurd (let none : m * 0 ≡ 0 = omega arith in omega arith)
    go (suc n) e = let more : m * suc n ≡ m * n + m = omega arith in omega arith

some_distance : (z : ℤ) → (z ≡ pos 0 → ⊥) → 0 < nat_abs z
some_distance (pos zero) h = absurd (h refl)
some_distance (pos (suc n)) h = omega arith
some_distance (negsuc n) h = omega arith

-- a factor of a product other than 0 is no farther from 0
pub no_farther : (x y z : ℤ) → product_of x y ≡ Some z → (z ≡ pos 0 → ⊥) → nat_abs x ≤ nat_abs z
no_farther x y z e some =
    let p = exact (x *ℤ y) z e in
    distances (nat_abs x) (nat_abs y) (nat_abs z) (sym (unsigned_abs-mul x y) ∙ ap nat_abs p) (some_distance z some)

pub within_distance : (x z : ℤ) (w : Span) (d : ℤ) → IsInSpan z w → nat_abs x ≤ nat_abs z → d ≡ pos (max (nat_abs w.low) (nat_abs w.high)) → (neg_ℤ d ≤ℤ x) × (x ≤ℤ d)
within_distance x z w d m h e = (omega (arith, ints, m.0, m.1, e), omega (arith, ints, m.0, m.1, e))

-- with a factor 0 a product is 0
pub zero_factor : (x y z : ℤ) → product_of x y ≡ Some z → x ≡ pos 0 → z ≡ pos 0
zero_factor x y z e is = sym (exact (x *ℤ y) z e) ∙ (ap (λ v. v *ℤ y) is ∙ zero-*ℤ y)
