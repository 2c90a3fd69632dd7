use Rattle.pst_printed_answers.proofs.Shared.{shared_taken}
use Rattle.pst_printed_answers.proofs.laws.shared_runs_are_taken.Goals as goal

pub returns : goal.returns
returns c = shared_taken c.whole_traces_are_taken.ensures c.begun_traces_are_taken.ensures c.bodies_are_short.ensures
