use Rattle.pst_law_trials.proofs.PremisesTried.{two_open, two_to_come, one_open, one_to_come, not_yet, open_already, other_options, reads_ends, has_constraint, is_open, waits_for_nothing, reads_unlinked, isn't_placed, joins_no_open_ends}
use Rattle.pst_law_trials.proofs.blanks_are_tried.Goals as goal

pub returns : goal.returns
returns c = record {
  two_open = two_open;
  two_to_come = two_to_come;
  one_open = one_open;
  one_to_come = one_to_come;
  not_yet = not_yet;
  open_already = open_already;
  other_options = other_options;
  reads_ends = reads_ends;
  has_constraint = has_constraint;
  is_open = is_open;
  waits_for_nothing = waits_for_nothing;
  reads_unlinked = reads_unlinked;
  isn't_placed = isn't_placed;
  joins_no_open_ends = joins_no_open_ends;
}
