use Rattle.pst_type_rules.proofs.MoreTried.{lowest_bit, no_value, fields_with_array, references, output_twice, input_twice, steady, unsteady_in_derived}
use Rattle.pst_type_rules.proofs.laws.more_are_tried.Goals as goal

pub returns : goal.returns
returns c = record {
  lowest_bit = lowest_bit;
  no_value = no_value;
  fields_with_array = fields_with_array;
  references = references;
  output_twice = output_twice;
  input_twice = input_twice;
  steady = steady;
  unsteady_in_derived = unsteady_in_derived;
}
