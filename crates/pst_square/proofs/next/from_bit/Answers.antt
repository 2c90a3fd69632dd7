use Rattle.pst_square.proofs.Nexts.{shifted_has}
use Rattle.pst_square.proofs.next.from_bit.Goals as goal

pub returns : goal.returns
returns c = λ k. shifted_has c.args.word c.args.bit k c.ranges.word.fits
