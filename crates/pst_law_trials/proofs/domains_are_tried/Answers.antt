use Rattle.pst_law_trials.proofs.AheadTried.{eight, last_first, first_second, no_ninth, beyond, isn't_read, reads_zero, zero_is_beyond}
use Rattle.pst_law_trials.proofs.domains_are_tried.Goals as goal

pub returns : goal.returns
returns c = record {
  eight = eight;
  last_first = last_first;
  first_second = first_second;
  no_ninth = no_ninth;
  sound = c.trials_of_sound_models.ensures.sound;
  beyond = beyond;
  isn't_read = isn't_read c.read_values_are_in_domains.ensures c.trials_of_sound_models.ensures;
  reads_zero = reads_zero;
  zero_is_beyond = zero_is_beyond;
}
