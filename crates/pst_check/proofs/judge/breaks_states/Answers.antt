use Rattle.pst_check.proofs.Places.{and_then}
use Rattle.pst_check.proofs.Meanings.{writer}
use Rattle.pst_check.proofs.judge.breaks_states.Goals as goal

pub returns : goal.returns
returns c = and_then c.any_other_writer.ensures (writer c.args.scenario.now c.args.past.now c.args.part.now)
