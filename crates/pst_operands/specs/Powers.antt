-- Powers of 2.
use Rattle.std.specs.Prelude.{◌≡◌, ◌+◌, ◌-◌, ◌^◌, ℕ, ℤ, pos, ◌-ℤ◌}
use Rattle.pst_expr.specs.declared.ranges.Span.{Span}
use Rattle.pst_expr.specs.Spans.{IsInSpan}
use Rattle.pst_operands.specs.Residues.{IsResidue}

-- each exponent of a span that isn't negative gives a power in the other span
abbrev pub HasPowers : Span → Span → Type 0
HasPowers counts powers = (n : ℕ) → IsInSpan (pos n) counts → IsInSpan (pos (2 ^ n)) powers

-- a mask of the lowest digits, and the power of 2 that is one more
abbrev pub IsMask : ℤ → ℤ → Type 0
IsMask mask modulus = (n : ℕ) × (mask ≡ pos (2 ^ n - 1)) × (modulus ≡ pos (2 ^ n))

-- a mask of digits side by side, the power of 2 of the lowest one, and the power of 2 above the highest one
pub record IsField (mask unit modulus : ℤ) : Type 0 where
  pub place : ℕ
  pub count : ℕ
  pub mask_is : mask ≡ pos (2 ^ (count + place) - 2 ^ place)
  pub unit_is : unit ≡ pos (2 ^ place)
  pub modulus_is : modulus ≡ pos (2 ^ (count + place))

-- the multiple of a number that is no greater than x and nearest to it
abbrev pub IsRoundedDown : ℤ → ℤ → ℤ → Type 0
IsRoundedDown unit x y = IsResidue unit x (x -ℤ y)

-- z is what x, rounded down to a multiple of a unit, leaves of a multiple of a modulus
pub record IsFieldOf (unit modulus x z : ℤ) : Type 0 where
  pub whole : ℤ
  pub rounded : IsRoundedDown unit x whole
  pub left : IsResidue modulus whole z
  pub even : IsResidue unit z (pos 0)

-- the numbers with such a wanted z stay
abbrev pub KeepsField : ℤ → ℤ → Span → Span → Span → Type 0
KeepsField unit modulus old wanted new = (x z : ℤ) → IsInSpan x old → IsInSpan z wanted → IsFieldOf unit modulus x z → IsInSpan x new
