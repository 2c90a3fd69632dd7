use Rattle.std.proofs.Common.{refl, arith}
use Rattle.pst_search_loop.proofs.Added.{added_pushed}
use Rattle.pst_search_loop.proofs.conflict.Conflict.add.Goals as goal

pub returns : goal.returns
returns c = added_pushed c.args.self.now _ c.args.place c.args.at (omega arith) (record { below = refl; places = c.in_ok-push.ensures.items; level = refl })
