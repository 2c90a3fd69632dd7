use Rattle.pst_trials.proofs.SelectsTried.{word_one, reads, options, reads_with_guard, dead_without_arm, two_at_seven, none_at_three, word_two, weighted, second_first, first_second, no_third, no_choice_left, legal}
use Rattle.pst_trials.proofs.selects_are_tried.Goals as goal

pub returns : goal.returns
returns c = record {
  word_one = word_one;
  reads = reads;
  options = options;
  reads_with_guard = reads_with_guard;
  dead_without_arm = dead_without_arm;
  two_at_seven = two_at_seven;
  none_at_three = none_at_three;
  word_two = word_two;
  weighted = weighted;
  second_first = second_first;
  first_second = first_second;
  no_third = no_third;
  no_choice_left = no_choice_left;
  legal = legal;
}
