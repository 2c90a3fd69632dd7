use Rattle.std.proofs.Common.{arith, subst}
use Rattle.pst_search_loop.specs.Conflicts.{IsAmong}
use Rattle.pst_search_loop.proofs.Among.{among_at}
use Rattle.pst_search_loop.proofs.conflict.is_among.Goals as goal

pub returns-then-other-place : goal.returns-then-other-place
returns-then-other-place c e = subst (IsAmong c.args.places.now) (omega arith) (among_at c.args.places.now c.loop-other.other-index (omega arith))
