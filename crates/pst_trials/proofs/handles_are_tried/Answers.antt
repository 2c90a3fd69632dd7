use Rattle.std.proofs.Common.{refl}
use Rattle.pst_trials.proofs.HandlesTried.{stands, has, handled_has, none_of_two, both_of_two, second_of_three, two_of_three, three_of_two, left_is_left, one_group, not_two}
use Rattle.pst_trials.proofs.handles_are_tried.Goals as goal

pub returns : goal.returns
returns c = record {
  stands = stands;
  has = has;
  first_turns = refl;
  other_turns = refl;
  handled_has = handled_has;
  handled_holds = refl;
  handled_fails = refl;
  handled_initial = refl;
  none_of_two = none_of_two;
  both_of_two = both_of_two;
  second_of_three = second_of_three;
  two_of_three = two_of_three;
  three_of_two = three_of_two;
  left_is_left = left_is_left;
  one_group = one_group;
  not_two = not_two;
}
