use Rattle.pst_square.proofs.Nexts.{lowest_bit}
use Rattle.std.proofs.Common.{◌≡◌, arith}
use Rattle.std.proofs.lemmas.Bool.Decides.{nat_tests}
use Rattle.pst_square.proofs.next.lowest.Goals as goal

pub returns : goal.returns
returns c = lowest_bit c.args.word c.ranges.word.fits (λ (none : c.args.word ≡ 0). grind (arith, nat_tests, c.if-word-eq0.false))
