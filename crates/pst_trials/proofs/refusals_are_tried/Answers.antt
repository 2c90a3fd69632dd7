use Rattle.pst_trials.proofs.RefusedTried.{locks_in_parallel, bound_in_parallel, twice_locked, reader_of_replaced, locks_in_any_order, plan_of_locks}
use Rattle.pst_trials.proofs.refusals_are_tried.Goals as goal

pub returns : goal.returns
returns c = record {
  locks_in_parallel = locks_in_parallel;
  bound_in_parallel = bound_in_parallel;
  twice_locked = twice_locked;
  reader_of_replaced = reader_of_replaced;
  locks_in_any_order = locks_in_any_order;
  plan_of_locks = plan_of_locks;
}
