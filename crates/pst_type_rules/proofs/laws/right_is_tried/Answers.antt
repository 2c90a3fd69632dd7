use Rattle.pst_type_rules.proofs.RightTried.{greatest_size, greatest_width, one_value, output_to_input, apart}
use Rattle.pst_type_rules.proofs.laws.right_is_tried.Goals as goal

pub returns : goal.returns
returns c = record {
  greatest_size = greatest_size;
  greatest_width = greatest_width;
  one_value = one_value;
  output_to_input = output_to_input;
  apart = apart;
}
