use Rattle.pst_trials.proofs.ReleasesTried.{turn_releases, block_releases, next_turn_waits, inner_releases, outer_waits, if_releases, second_branch, second_waits, first_is_released, first_in_order, schedule_isn't_parallel, schedule_keeps, parallel_is, parallel_locks, partners_are_ordered, writers_are_ordered, readers_are_kept, lock_and_share_clash}
use Rattle.pst_trials.proofs.releases_are_tried.Goals as goal

pub returns : goal.returns
returns c = record {
  turn_releases = turn_releases;
  block_releases = block_releases;
  next_turn_waits = next_turn_waits;
  inner_releases = inner_releases;
  outer_waits = outer_waits;
  if_releases = if_releases;
  second_branch = second_branch;
  second_waits = second_waits;
  first_is_released = first_is_released;
  first_in_order = first_in_order;
  schedule_isn't_parallel = schedule_isn't_parallel;
  schedule_keeps = schedule_keeps;
  parallel_is = parallel_is;
  parallel_locks = parallel_locks;
  partners_are_ordered = partners_are_ordered;
  writers_are_ordered = writers_are_ordered;
  readers_are_kept = readers_are_kept;
  lock_and_share_clash = lock_and_share_clash;
}
