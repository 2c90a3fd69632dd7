use Rattle.pst_check.proofs.Places.{and_then}
use Rattle.pst_check.proofs.Meanings.{reader}
use Rattle.pst_check.proofs.judge.breaks_readers.Goals as goal

pub returns : goal.returns
returns c = and_then c.any_reader_open.ensures (reader c.args.scenario.now c.args.past.now c.args.part.now)
