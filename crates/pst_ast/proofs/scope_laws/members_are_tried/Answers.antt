use Rattle.pst_ast.proofs.MembersTried.{field_of_handle, field_of_its_input, number_of_its_claim, input_of_handle, handle_of_handle, behind_a_field, handle_alone, no_instance_id_of_input, traversed_field, still_a_handle, index_hides_no_handle, its_local, no_local_yet, assigns_local, assigns_nothing, traverses, traverses_no_handle, an_end, end_is_a_claim, end_of_nothing, joins, joins_nothing, calls, calls_no_function, binds, binds_no_pool, a_target, no_reference, no_action_there, an_action_there, no_instance, instance_of_no_component, loops, is_reserved, not_reserved, of_local, of_instance}
use Rattle.pst_ast.proofs.scope_laws.members_are_tried.Goals as goal

pub returns : goal.returns
returns c = record {
  field_of_handle = field_of_handle;
  field_of_its_input = field_of_its_input;
  number_of_its_claim = number_of_its_claim;
  input_of_handle = input_of_handle;
  handle_of_handle = handle_of_handle;
  behind_a_field = behind_a_field;
  handle_alone = handle_alone;
  no_instance_id_of_input = no_instance_id_of_input;
  traversed_field = traversed_field;
  still_a_handle = still_a_handle;
  index_hides_no_handle = index_hides_no_handle;
  its_local = its_local;
  no_local_yet = no_local_yet;
  assigns_local = assigns_local;
  assigns_nothing = assigns_nothing;
  traverses = traverses;
  traverses_no_handle = traverses_no_handle;
  an_end = an_end;
  end_is_a_claim = end_is_a_claim;
  end_of_nothing = end_of_nothing;
  joins = joins;
  joins_nothing = joins_nothing;
  calls = calls;
  calls_no_function = calls_no_function;
  binds = binds;
  binds_no_pool = binds_no_pool;
  a_target = a_target;
  no_reference = no_reference;
  no_action_there = no_action_there;
  an_action_there = an_action_there;
  no_instance = no_instance;
  instance_of_no_component = instance_of_no_component;
  loops = loops;
  is_reserved = is_reserved;
  not_reserved = not_reserved;
  of_local = of_local;
  of_instance = of_instance;
}
