use Rattle.pst_trials.proofs.ArraysTried.{reads_elements, element_options, begins_at_one, first_has_none_before, second_doubles, third_doubles, third_is_more, begins_elsewhere, none_before_first, elements_hold, elements_are_legal, others_fail, no_quotient, quotient_fails, quotient_refused, guarded_value, guarded_reads, guarded_is_legal, root_is_live, one_value_is_live, last_value_is_live, no_value_beyond, two_values_are_refused, empty_is_not_live}
use Rattle.pst_trials.proofs.arrays_are_tried.Goals as goal

pub returns : goal.returns
returns c = record {
  reads_elements = reads_elements;
  element_options = element_options;
  begins_at_one = begins_at_one;
  first_has_none_before = first_has_none_before;
  second_doubles = second_doubles;
  third_doubles = third_doubles;
  third_is_more = third_is_more;
  begins_elsewhere = begins_elsewhere;
  none_before_first = none_before_first;
  elements_hold = elements_hold;
  elements_are_legal = elements_are_legal;
  others_fail = others_fail;
  no_quotient = no_quotient;
  quotient_fails = quotient_fails;
  quotient_refused = quotient_refused;
  guarded_value = guarded_value;
  guarded_reads = guarded_reads;
  guarded_is_legal = guarded_is_legal;
  root_is_live = root_is_live;
  one_value_is_live = one_value_is_live;
  last_value_is_live = last_value_is_live;
  no_value_beyond = no_value_beyond;
  two_values_are_refused = two_values_are_refused;
  empty_is_not_live = empty_is_not_live;
}
