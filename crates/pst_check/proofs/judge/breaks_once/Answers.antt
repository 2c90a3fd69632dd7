use Rattle.pst_check.proofs.Places.{and_then}
use Rattle.pst_check.proofs.Meanings.{again}
use Rattle.pst_check.proofs.judge.breaks_once.Goals as goal

pub returns : goal.returns
returns c = and_then c.any_started.ensures (again c.args.scenario.now c.args.past.now c.args.part.now)
