use Rattle.pst_trials.proofs.InstancesTried.{of_component, of_subtree, of_top, none_outside, not_under, options, reads, resource_options, reads_apart, apart_is_kept}
use Rattle.pst_trials.proofs.instances_are_tried.Goals as goal

pub returns : goal.returns
returns c = record {
  of_component = of_component;
  of_subtree = of_subtree;
  of_top = of_top;
  none_outside = none_outside;
  not_under = not_under;
  options = options;
  reads = reads;
  resource_options = resource_options;
  reads_apart = reads_apart;
  apart_is_kept = apart_is_kept;
}
