use Rattle.std.proofs.Common.{refl, arith}
use Rattle.pst_sound_parts.proofs.Apart.{bits_below}
use Rattle.pst_sound_parts.proofs.ranges.are_bits_below.Goals as goal

pub returns : goal.returns
returns c = (λ t. bits_below c.args.bits c.args.n c.ranges.bits.fits (λ k above within. c.loop-k.invariant k above (let end = c.loop-k-test.false in omega (arith, within, end))), λ h. refl)
