use Rattle.pst_trials.proofs.BindsTried.{joined, fixed, not_of_output, reads_parallel, reads_any_order, one_option, one_option_still, order, parallel_is_ordered, parallel_is_illegal, trace, whole, legal}
use Rattle.pst_trials.proofs.binds_are_tried.Goals as goal

pub returns : goal.returns
returns c = record {
  joined = joined;
  fixed = fixed;
  not_of_output = not_of_output;
  reads_parallel = reads_parallel;
  reads_any_order = reads_any_order;
  one_option = one_option;
  one_option_still = one_option_still;
  order = order;
  parallel_is_ordered = parallel_is_ordered;
  parallel_is_illegal = parallel_is_illegal;
  trace = trace;
  whole = whole;
  legal = legal;
}
