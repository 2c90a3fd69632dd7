-- What cuts keep where bits are wanted, and where a remainder is.
use Rattle.std.proofs.Common.{◌≡◌, ℤ, pos, ◌+ℤ◌, ◌-ℤ◌, ◌≤ℤ◌, ◌<ℤ◌, int_rem, Some, arith, sym}
use Rattle.std.proofs.lemmas.Int.{ints}
use Rattle.pst_num.specs.Range.{greatest}
use Rattle.pst_num.specs.Bits.{bits_and, bits_or, bits_xor}
use Rattle.pst_num.specs.Arithmetic.{remainder_of}
use Rattle.pst_expr.specs.declared.ranges.Span.{Span}
use Rattle.pst_expr.specs.Spans.{IsInSpan}
use Rattle.pst_operands.specs.Keeps.{Keeps, KeepsLeft}
use Rattle.pst_operands.proofs.Exactly.{same_order}
use Rattle.pst_operands.proofs.Products.{le_le, lt_le, le_lt}
use Rattle.pst_operands.proofs.Digits.{and_at_most, or_between, xor_between}
use Rattle.pst_operands.proofs.Dividends.{is_rest}
use Rattle.pst_operands.proofs.Residues.{positive_rest, negative_rest}

pub not_negative : (s : Span) (x : ℤ) → pos 0 ≤ℤ s.low → IsInSpan x s → pos 0 ≤ℤ x
not_negative s x h at = omega (arith, ints, at.0)

pub a_value : (s : Span) (x : ℤ) → s.high ≤ℤ greatest → IsInSpan x s → x ≤ℤ greatest
a_value s x h at = omega (arith, ints, at.1)

pub masked_cut : (s t w new : Span) (r : ℤ) → pos 0 ≤ℤ s.low → s.high ≤ℤ greatest → r ≡ w.low → Keeps (λ x. r ≤ℤ x) s new → KeepsLeft bits_and s t w new
masked_cut s t w new r low high is cut x y z h k l e =
    cut x h (le_le r z x (start r w.low z is l.0) (and_at_most x y z (not_negative s x low h) (a_value s x high h) e))
  where
    start : (a b z : ℤ) → a ≡ b → b ≤ℤ z → a ≤ℤ z
    start a b z e h = omega (arith, ints)

pub more_cut : (s t w a b : Span) (l h : ℤ) → pos 0 ≤ℤ s.low → s.high ≤ℤ greatest → pos 0 ≤ℤ t.low → t.high ≤ℤ greatest → l ≡ w.low -ℤ t.high → h ≡ w.high → Keeps (λ x. l ≤ℤ x) s a → Keeps (λ x. x ≤ℤ h) a b → KeepsLeft bits_or s t w b
more_cut s t w a b l h low high low' high' is is' first second x y z at with m e =
    let p = or_between x y z (not_negative s x low at) (a_value s x high at) (not_negative t y low' with) (a_value t y high' with) e in
    second x (first x at (omega (arith, ints, is, m.0, with.1, p.1))) (omega (arith, ints, is', m.1, p.0))

pub turned_cut : (s t w a b d : Span) (l h g : ℤ) → pos 0 ≤ℤ s.low → s.high ≤ℤ greatest → pos 0 ≤ℤ t.low → t.high ≤ℤ greatest → l ≡ w.low -ℤ t.high → h ≡ w.high +ℤ t.high → g ≡ t.low -ℤ w.high → Keeps (λ x. l ≤ℤ x) s a → Keeps (λ x. g ≤ℤ x) a b → Keeps (λ x. x ≤ℤ h) b d → KeepsLeft bits_xor s t w d
turned_cut s t w a b d l h g low high low' high' is is' is'' first second third x y z at with m e =
    let p = xor_between x y z (not_negative s x low at) (a_value s x high at) (not_negative t y low' with) (a_value t y high' with) e in
    third x (second x (first x at (omega (arith, ints, is, m.0, with.1, p.0))) (omega (arith, ints, is'', m.1, with.0, p.2))) (omega (arith, ints, is', m.1, with.1, p.1))

-- ---- the sign of a remainder is the dividend's

pub rest_at_least : (x y z l : ℤ) → remainder_of x y ≡ Some z → pos 0 <ℤ l → l ≤ℤ z → l ≤ℤ x
rest_at_least x y z l e g h =
    let found : l ≤ℤ int_rem x y = le_le l z (int_rem x y) h (same_order z (int_rem x y) (sym (is_rest x y z e))) in
    le_le l (int_rem x y) x found (positive_rest x y (lt_le (pos 0) l (int_rem x y) g found))

pub rest_at_most : (x y z k : ℤ) → remainder_of x y ≡ Some z → k <ℤ pos 0 → z ≤ℤ k → x ≤ℤ k
rest_at_most x y z k e g h =
    let found : int_rem x y ≤ℤ k = le_le (int_rem x y) z k (same_order (int_rem x y) z (is_rest x y z e)) h in
    le_le x (int_rem x y) k (negative_rest x y (le_lt (int_rem x y) k (pos 0) found g)) found

pub rest_found : (x y z l : ℤ) → remainder_of x y ≡ Some z → l ≤ℤ z → l ≤ℤ int_rem x y
rest_found x y z l e h = le_le l z (int_rem x y) h (same_order z (int_rem x y) (sym (is_rest x y z e)))
