use Rattle.std.proofs.Common.{refl, arith}
use Rattle.pst_square.proofs.Squares.{all_bits}
use Rattle.pst_square.proofs.square.range_mask.Goals as goal

pub returns-then-is_within-2 : goal.returns-then-is_within-2
returns-then-is_within-2 c = λ k.
    let low = (c.if-is_within.ensures.0 refl).least in
    let high = (c.if-is_within-2.ensures.0 refl).below in (
      λ set. let less = (all_bits k).0 set in (less, record { least = omega (arith, low); below = omega (arith, high, less) }),
      λ both. (all_bits k).1 both.0,
    )
