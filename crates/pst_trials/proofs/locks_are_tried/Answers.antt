use Rattle.pst_trials.proofs.LocksTried.{reads_parallel_locks, reads_any_order, reads_parallel_shares, one_option_each, locks_conflict, shares_agree, locks_dispute, parallel_locks_are_illegal, whole_trace, whole, not_together, shares_together, locks_are_legal, locks_are_first, shares_are_legal}
use Rattle.pst_trials.proofs.locks_are_tried.Goals as goal

pub returns : goal.returns
returns c = record {
  reads_parallel_locks = reads_parallel_locks;
  reads_any_order = reads_any_order;
  reads_parallel_shares = reads_parallel_shares;
  one_option_each = one_option_each;
  locks_conflict = locks_conflict;
  shares_agree = shares_agree;
  locks_dispute = locks_dispute;
  parallel_locks_are_illegal = parallel_locks_are_illegal;
  whole_trace = whole_trace;
  whole = whole;
  not_together = not_together;
  shares_together = shares_together;
  locks_are_legal = locks_are_legal;
  locks_are_first = locks_are_first;
  shares_are_legal = shares_are_legal;
}
