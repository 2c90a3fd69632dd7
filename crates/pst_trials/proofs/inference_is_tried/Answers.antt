use Rattle.pst_trials.proofs.InferenceTried.{reads, one_option_each, dead_without, numbered, order, not_back, trace, whole, consumer_waits, legal}
use Rattle.pst_trials.proofs.inference_is_tried.Goals as goal

pub returns : goal.returns
returns c = record {
  reads = reads;
  one_option_each = one_option_each;
  dead_without = dead_without;
  numbered = numbered;
  order = order;
  not_back = not_back;
  trace = trace;
  whole = whole;
  consumer_waits = consumer_waits;
  legal = legal;
}
