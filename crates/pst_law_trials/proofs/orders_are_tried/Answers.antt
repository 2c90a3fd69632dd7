use Rattle.pst_law_trials.proofs.PremisesTried.{not_down, not_over, doesn't_end, not_dead, not_twice}
use Rattle.pst_law_trials.proofs.orders_are_tried.Goals as goal

pub returns : goal.returns
returns c = record {
  not_down = not_down c.inference_is_tried.ensures;
  not_over = not_over c.inference_is_tried.ensures;
  doesn't_end = doesn't_end c.inference_is_tried.ensures;
  not_dead = not_dead;
  not_twice = not_twice;
}
