use Rattle.std.proofs.Common.{◌≤◌, arith}
use Rattle.std.proofs.lemmas.Bool.Decides.{nat_tests}
use Rattle.pst_nodes.proofs.Climbs.{not_true}
use Rattle.pst_square.proofs.Bits.{bit_test}
use Rattle.pst_nodes.proofs.Bits.{no_high_bit}
use Rattle.pst_nodes.proofs.before.is_set.Goals as goal

pub returns-then-bit-ge64 : goal.returns-then-bit-ge64
returns-then-bit-ge64 c =
    let high : 64 ≤ c.args.bit = grind (arith, nat_tests, c.if-bit-ge64.true) in
    (λ t. absurd (not_true t), λ set. absurd (set (no_high_bit c.args.word c.args.bit c.ranges.word.fits high)))

pub returns : goal.returns
returns c = bit_test c.args.word c.args.bit
