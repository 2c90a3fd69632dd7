use Rattle.pst_check.proofs.Places.{and_then}
use Rattle.pst_check.proofs.Meanings.{producer}
use Rattle.pst_check.proofs.judge.breaks_buffers.Goals as goal

pub returns : goal.returns
returns c = and_then c.any_producer_open.ensures (producer c.args.scenario.now c.args.past.now c.args.part.now)
