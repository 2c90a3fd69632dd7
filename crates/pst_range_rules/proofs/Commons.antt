-- Numbers that spans have in common.
use Rattle.std.proofs.Common.{◌≡◌, ℤ, ◌≤ℤ◌, true, arith, refl, sym, true≢false, Option}
use Rattle.std.specs.Prelude.{Some, None}
use Rattle.std.specs.Int.{int_max, int_min}
use Rattle.std.proofs.lemmas.Int.{ints, clamps}
use Rattle.pst_expr.specs.declared.ranges.Span.{Span}
use Rattle.pst_expr.specs.Spans.{IsInSpan}
use Rattle.pst_range_rules.specs.Spans.{have_common, meet}
use Rattle.pst_range_rules.proofs.Tests.{by_le, le_test}

in_first : (a b c d : ℤ) → int_max a b ≤ℤ int_min c d → (a ≤ℤ int_max a b) × (int_max a b ≤ℤ c)
in_first a b c d h = (omega (arith, ints, clamps), omega (arith, ints, clamps))

in_second : (a b c d : ℤ) → int_max a b ≤ℤ int_min c d → (b ≤ℤ int_max a b) × (int_max a b ≤ℤ d)
in_second a b c d h = (omega (arith, ints, clamps), omega (arith, ints, clamps))

between_both : (a b c d v : ℤ) → a ≤ℤ v → b ≤ℤ v → v ≤ℤ c → v ≤ℤ d → int_max a b ≤ℤ int_min c d
between_both a b c d v p q r s = omega (arith, ints, clamps)

-- two spans, and a number in both
pub record Common (a b : Option Span) : Type 0 where
  pub first : Span
  pub second : Span
  pub first_is : a ≡ Some first
  pub second_is : b ≡ Some second
  pub number : ℤ
  pub in_first : IsInSpan number first
  pub in_second : IsInSpan number second

pub from_meet : (a b : Option Span) → meet a b ≡ true → Common a b
from_meet None b e = absurd (true≢false (sym e))
from_meet (Some s) None e = absurd (true≢false (sym e))
from_meet (Some s) (Some t) e =
    let le = by_le (int_max s.low t.low) (int_min s.high t.high) e in
    record {
      first = s;
      second = t;
      first_is = refl;
      second_is = refl;
      number = int_max s.low t.low;
      in_first = in_first s.low t.low s.high t.high le;
      in_second = in_second s.low t.low s.high t.high le;
    }

pub to_meet : (s t : Span) (v : ℤ) → IsInSpan v s → IsInSpan v t → have_common s t ≡ true
to_meet s t v p q = le_test (int_max s.low t.low) (int_min s.high t.high) (between_both s.low t.low s.high t.high v p.0 q.0 p.1 q.1)

pub from_common : (s t : Span) → have_common s t ≡ true → (v : ℤ) × IsInSpan v s × IsInSpan v t
from_common s t e =
    let le = by_le (int_max s.low t.low) (int_min s.high t.high) e in (int_max s.low t.low, in_first s.low t.low s.high t.high le, in_second s.low t.low s.high t.high le)
