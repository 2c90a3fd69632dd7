use Rattle.std.proofs.Common.{arith}
use Rattle.pst_reasons.proofs.KeepLemmas.{can_go, one_back}
use Rattle.pst_reasons.proofs.reasons.Narrowed.take_back.Goals as goal

pub go_back-requires-clause-some : goal.go_back-requires-clause-some
go_back-requires-clause-some c = let number = c.requires.kept.number in omega (arith, number)

pub go_back-requires-clause-can : goal.go_back-requires-clause-can
go_back-requires-clause-can c = can_go c.args.self.now c.requires.kept

pub returns : goal.returns
returns c = one_back c.args.self.now c.go_back.new.self c.requires.kept c.go_back.ensures
