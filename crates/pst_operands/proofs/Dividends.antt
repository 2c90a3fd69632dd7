-- What a cut keeps of the dividends of wanted quotients.
use Rattle.std.proofs.Common.{◌≡◌, ◌≢◌, ℤ, pos, ◌+ℤ◌, ◌-ℤ◌, ◌*ℤ◌, ◌≤ℤ◌, ◌<ℤ◌, int_div, int_rem, Some, sym}
use Rattle.pst_num.specs.Range.{in_range}
use Rattle.pst_num.specs.Arithmetic.{quotient_of, remainder_of}
use Rattle.pst_num.specs.Laws.{RoundsTowardsZero, IsTruncated}
use Rattle.pst_expr.specs.declared.ranges.Span.{Span}
use Rattle.pst_expr.specs.Spans.{IsInSpan}
use Rattle.pst_operands.specs.Keeps.{Keeps, KeepsLeft}
use Rattle.pst_operands.proofs.Exactly.{exact, unless_zero, same_order}
use Rattle.pst_operands.proofs.Products.{le_le, lt_le, le_lt}
use Rattle.pst_operands.proofs.Quotients.{high_with_greater, high_with_lesser, low_with_greater, low_with_lesser, high_with_lower, high_with_nearer, low_with_lower, low_with_nearer}

pub some_divisor : (x y z : ℤ) → quotient_of x y ≡ Some z → y ≢ pos 0
some_divisor x y z e = (unless_zero y z (in_range (int_div x y)) e).0

is_quotient : (x y z : ℤ) → quotient_of x y ≡ Some z → int_div x y ≡ z
is_quotient x y z e = exact (int_div x y) z (unless_zero y z (in_range (int_div x y)) e).1

to_high : (x y z : ℤ) (w : Span) → quotient_of x y ≡ Some z → IsInSpan z w → int_div x y ≤ℤ w.high
to_high x y z w e m = le_le (int_div x y) z w.high (same_order (int_div x y) z (is_quotient x y z e)) m.1

from_low : (x y z : ℤ) (w : Span) → quotient_of x y ≡ Some z → IsInSpan z w → w.low ≤ℤ int_div x y
from_low x y z w e m = le_le w.low z (int_div x y) m.0 (same_order z (int_div x y) (sym (is_quotient x y z e)))

module _ (law : RoundsTowardsZero) (s t w new : Span) where
  truncated : (x y z : ℤ) → quotient_of x y ≡ Some z → IsTruncated x y
  truncated x y z e = law x y (some_divisor x y z e)

  module _ (g : pos 0 <ℤ t.low) where
    pub high_positive : (n : ℤ) → pos 0 ≤ℤ w.high → n ≡ w.high +ℤ pos 1 → Keeps (λ x. x <ℤ (n *ℤ t.high)) s new → KeepsLeft quotient_of s t w new
    high_positive n k i cut x y z h l m e = cut x h (high_with_greater x y (truncated x y z e) (lt_le (pos 0) t.low y g l.0) t.high w.high n l.1 (to_high x y z w e m) k i)

    pub high_under : w.high <ℤ pos 0 → Keeps (λ x. x ≤ℤ (w.high *ℤ t.low)) s new → KeepsLeft quotient_of s t w new
    high_under k cut x y z h l m e = cut x h (high_with_lesser x y (truncated x y z e) (lt_le (pos 0) t.low y g l.0) t.low w.high l.0 (to_high x y z w e m) k)

    pub low_negative : (n : ℤ) → w.low ≤ℤ pos 0 → n ≡ w.low -ℤ pos 1 → Keeps (λ x. (n *ℤ t.high) <ℤ x) s new → KeepsLeft quotient_of s t w new
    low_negative n k i cut x y z h l m e = cut x h (low_with_greater x y (truncated x y z e) (lt_le (pos 0) t.low y g l.0) t.high w.low n l.1 (from_low x y z w e m) k i)

    pub low_over : pos 0 <ℤ w.low → Keeps (λ x. (w.low *ℤ t.low) ≤ℤ x) s new → KeepsLeft quotient_of s t w new
    low_over k cut x y z h l m e = cut x h (low_with_lesser x y (truncated x y z e) (lt_le (pos 0) t.low y g l.0) t.low w.low l.0 (from_low x y z w e m) k)

  module _ (g : t.high <ℤ pos 0) where
    pub high_negative_by_negative : (n : ℤ) → w.low ≤ℤ pos 0 → n ≡ w.low -ℤ pos 1 → Keeps (λ x. x <ℤ (n *ℤ t.low)) s new → KeepsLeft quotient_of s t w new
    high_negative_by_negative n k i cut x y z h l m e = cut x h (high_with_lower x y (truncated x y z e) (le_lt y t.high (pos 0) l.1 g) t.low w.low n l.0 (from_low x y z w e m) k i)

    pub high_over_by_negative : pos 0 <ℤ w.low → Keeps (λ x. x ≤ℤ (w.low *ℤ t.high)) s new → KeepsLeft quotient_of s t w new
    high_over_by_negative k cut x y z h l m e = cut x h (high_with_nearer x y (truncated x y z e) (le_lt y t.high (pos 0) l.1 g) t.high w.low l.1 (from_low x y z w e m) k)

    pub low_positive_by_negative : (n : ℤ) → pos 0 ≤ℤ w.high → n ≡ w.high +ℤ pos 1 → Keeps (λ x. (n *ℤ t.low) <ℤ x) s new → KeepsLeft quotient_of s t w new
    low_positive_by_negative n k i cut x y z h l m e = cut x h (low_with_lower x y (truncated x y z e) (le_lt y t.high (pos 0) l.1 g) t.low w.high n l.0 (to_high x y z w e m) k i)

    pub low_under_by_negative : w.high <ℤ pos 0 → Keeps (λ x. (w.high *ℤ t.high) ≤ℤ x) s new → KeepsLeft quotient_of s t w new
    low_under_by_negative k cut x y z h l m e = cut x h (low_with_nearer x y (truncated x y z e) (le_lt y t.high (pos 0) l.1 g) t.high w.high l.1 (to_high x y z w e m) k)

-- ---- remainders

pub some_modulus : (x y z : ℤ) → remainder_of x y ≡ Some z → y ≢ pos 0
some_modulus x y z e = (unless_zero y z (in_range (int_rem x y)) e).0

pub is_rest : (x y z : ℤ) → remainder_of x y ≡ Some z → int_rem x y ≡ z
is_rest x y z e = exact (int_rem x y) z (unless_zero y z (in_range (int_rem x y)) e).1
