-- Numbers that leave a wanted residue.
use Rattle.std.specs.Prelude.{◌≡◌, ℤ, pos, unsigned_abs, ◌+ℤ◌, ◌*ℤ◌, neg_ℤ, ◌≤ℤ◌, ◌<ℤ◌}
use Rattle.pst_expr.specs.declared.ranges.Span.{Span}
use Rattle.pst_expr.specs.Spans.{IsInSpan}

-- z is what x leaves of a multiple of a modulus
pub record IsResidue (modulus x z : ℤ) : Type 0 where
  pub multiple : ℤ
  pub adds_up : (multiple *ℤ modulus) +ℤ z ≡ x
  pub from_zero : pos 0 ≤ℤ z
  pub below : z <ℤ modulus

-- the numbers of a span that leave a wanted residue stay
abbrev pub KeepsResidues : ℤ → Span → Span → Span → Type 0
KeepsResidues modulus old wanted new = (x z : ℤ) → IsInSpan x old → IsInSpan z wanted → IsResidue modulus x z → IsInSpan x new

-- a span with the same distances on the other side of 0
pub record IsMirrored (old new : Span) : Type 0 where
  pub low : new.low ≡ neg_ℤ old.high
  pub high : new.high ≡ neg_ℤ old.low

-- the distance of a number from 0, which isn't 0
pub record IsDistance (number modulus : ℤ) : Type 0 where
  pub positive : pos 0 <ℤ modulus
  pub distance : modulus ≡ pos (unsigned_abs number)

-- numbers of which the distances from 0 leave the distance of a wanted one stay
abbrev pub KeepsNegativeResidues : ℤ → Span → Span → Span → Type 0
KeepsNegativeResidues modulus old wanted new = (x z : ℤ) → IsInSpan x old → IsInSpan z wanted → IsResidue modulus (neg_ℤ x) (neg_ℤ z) → IsInSpan x new
