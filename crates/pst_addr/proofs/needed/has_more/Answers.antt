use Rattle.pst_addr.proofs.Bits.{no_more}
use Rattle.pst_addr.proofs.needed.has_more.Goals as goal

pub returns-then-both-other : goal.returns-then-both-other
returns-then-both-other c = λ k s. no_more c.args.word c.args.other k c.if-both-other.true s
