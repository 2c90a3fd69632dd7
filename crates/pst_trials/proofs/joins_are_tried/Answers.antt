use Rattle.pst_trials.proofs.JoinsTried.{reads_named, awaited, released, trace, whole, plain_awaited, plain_waits, plain_trace, chosen_options, chosen_second, chosen_first, too_many, crossed_reads, crossed_bound, crossed_released, crossed_order, crossed_trace, crossed_whole, plain_crossed_cycle, named_fills, chosen_fills}
use Rattle.pst_trials.proofs.joins_are_tried.Goals as goal

pub returns : goal.returns
returns c = record {
  reads_named = reads_named;
  awaited = awaited;
  released = released;
  trace = trace;
  whole = whole;
  plain_awaited = plain_awaited;
  plain_waits = plain_waits;
  plain_trace = plain_trace;
  chosen_options = chosen_options;
  chosen_second = chosen_second;
  chosen_first = chosen_first;
  too_many = too_many;
  crossed_reads = crossed_reads;
  crossed_bound = crossed_bound;
  crossed_released = crossed_released;
  crossed_order = crossed_order;
  crossed_trace = crossed_trace;
  crossed_whole = crossed_whole;
  plain_crossed_cycle = plain_crossed_cycle;
  named_fills = named_fills;
  chosen_fills = chosen_fills;
}
