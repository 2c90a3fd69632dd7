use Rattle.pst_law_trials.proofs.StepsTried.{dead_end, not_down_behind, not_over_behind, not_next, two_options, first_passed, second_reads, not_up, level_passed, next_reads}
use Rattle.pst_law_trials.proofs.steps_are_tried.Goals as goal

pub returns : goal.returns
returns c = record {
  dead_end = dead_end;
  not_down_behind = not_down_behind c.inference_is_tried.ensures;
  not_over_behind = not_over_behind c.inference_is_tried.ensures;
  not_next = not_next c.inference_is_tried.ensures;
  two_options = two_options;
  first_passed = first_passed;
  second_reads = second_reads c.states_are_tried.ensures;
  not_up = not_up c.states_are_tried.ensures;
  level_passed = level_passed c.places_go_on.ensures.options c.inference_is_tried.ensures;
  next_reads = next_reads c.inference_is_tried.ensures;
}
