use Rattle.std.proofs.Common.{lit<}
use Rattle.pst_trials.specs.Runs.{twice, modify, replaces}
use Rattle.pst_trials.proofs.RunsTried.{modify_trace, modify_whole, modify_order, may_come, lane_too_high, twice_cycle, modify_runs, no_prefix}
use Rattle.pst_trials.proofs.runs_are_tried.Goals as goal

pub returns : goal.returns
returns c = record {
  twice_can't_run = λ runs. c.whole_is_sound.ensures.cycle twice 0 runs (lit< tt) twice_cycle;
  modify_trace = modify_trace;
  modify_whole = modify_whole;
  modify_order = modify_order;
  modify_no_cycle = λ must. c.whole_is_sound.ensures.cycle modify 0 modify_runs (lit< tt) must;
  may_come = may_come;
  no_prefix = no_prefix c.blocks_are_one.ensures c.must_is_kept.ensures;
  lane_too_high = lane_too_high;
}
