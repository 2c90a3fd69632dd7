use Rattle.pst_ast.proofs.SmallTried.{field_of_input, behind_a_value, initial_of_input, behind_initial, no_prev_of_input, no_such_field, nothing, input_alone, array_alone, element, field_before_a_dot, index_behind_a_field, array_repeats, input_repeats, from_base, own, first_object, field_of_prev, prev_alone, of_traversed, two_items, with_enum, no_enum, no_item, a_state, no_object, a_base, not_in_base, once, twice, types, of_array, of_derived, of_initial}
use Rattle.pst_ast.proofs.scope_laws.names_are_tried.Goals as goal

pub returns : goal.returns
returns c = record {
  field_of_input = field_of_input;
  behind_a_value = behind_a_value;
  initial_of_input = initial_of_input;
  behind_initial = behind_initial;
  no_prev_of_input = no_prev_of_input;
  no_such_field = no_such_field;
  nothing = nothing;
  input_alone = input_alone;
  array_alone = array_alone;
  element = element;
  field_before_a_dot = field_before_a_dot;
  index_behind_a_field = index_behind_a_field;
  array_repeats = array_repeats;
  input_repeats = input_repeats;
  from_base = from_base;
  own = own;
  first_object = first_object;
  field_of_prev = field_of_prev;
  prev_alone = prev_alone;
  of_traversed = of_traversed;
  two_items = two_items;
  with_enum = with_enum;
  no_enum = no_enum;
  no_item = no_item;
  a_state = a_state;
  no_object = no_object;
  a_base = a_base;
  not_in_base = not_in_base;
  once = once;
  twice = twice;
  types = types;
  of_array = of_array;
  of_derived = of_derived;
  of_initial = of_initial;
}
