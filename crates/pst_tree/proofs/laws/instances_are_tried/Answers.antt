use Rattle.pst_tree.proofs.InstancesTried.{nested_instances, in_two_files, at_the_limit, one_too_many}
use Rattle.pst_tree.proofs.laws.instances_are_tried.Goals as goal

pub returns : goal.returns
returns c = record {
  nested_instances = nested_instances;
  in_two_files = in_two_files;
  at_the_limit = at_the_limit;
  one_too_many = one_too_many;
}
