use Rattle.pst_reduction.proofs.Words.{without_has}
use Rattle.pst_reduction.proofs.reducing.without.Goals as goal

pub returns : goal.returns
returns c = λ k k_in. without_has c.args.word c.args.other k c.ranges.other.fits k_in
