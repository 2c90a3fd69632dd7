use Rattle.pst_type_rules.proofs.RulesTried.{inner_in, quotient_by_0, same_value, item_too_large, meeting, second_default, size_of_buffers, claim_of_buffer, reference_of_resource, compound_with_claim, derived_with_claim, abstract_traversed, within_select, condition, from_input, other_object, no_argument, void_value, assigned_field}
use Rattle.pst_type_rules.proofs.laws.rules_are_tried.Goals as goal

pub returns : goal.returns
returns c = record {
  inner_in = inner_in;
  quotient_by_0 = quotient_by_0;
  same_value = same_value;
  item_too_large = item_too_large;
  meeting = meeting;
  second_default = second_default;
  size_of_buffers = size_of_buffers;
  claim_of_buffer = claim_of_buffer;
  reference_of_resource = reference_of_resource;
  compound_with_claim = compound_with_claim;
  derived_with_claim = derived_with_claim;
  abstract_traversed = abstract_traversed;
  within_select = within_select;
  condition = condition;
  from_input = from_input;
  other_object = other_object;
  no_argument = no_argument;
  void_value = void_value;
  assigned_field = assigned_field;
}
