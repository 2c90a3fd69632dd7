use Rattle.std.proofs.Common.{arith}
use Rattle.pst_search_loop.proofs.Added.{added_then}
use Rattle.pst_search_loop.proofs.conflict.Conflict.add_all.Goals as goal

pub loop-place-preserved : goal.loop-place-preserved
loop-place-preserved c = added_then c.args.self.now c.loop-place.self c.add.new.self c.args.places.now c.loop-place.place-index c.args.at (omega arith) c.loop-place.invariant c.in_ok-add.ensures
