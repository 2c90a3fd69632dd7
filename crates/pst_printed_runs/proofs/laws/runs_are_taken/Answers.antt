use Rattle.pst_printed_runs.proofs.Taken.{runs_taken}
use Rattle.pst_printed_runs.proofs.laws.runs_are_taken.Goals as goal

pub returns : goal.returns
returns c =
    runs_taken c.whole_traces_are_taken.ensures c.begun_traces_are_taken.ensures c.rule_is_legal.ensures c.rule_is_prefix.ensures c.acts_start_once.ensures.once
    c.bodies_are_short.ensures
