use Rattle.pst_trials.proofs.ReadingsTried.{place, goes_on, no_option, stays_dead, whole_ends, activity, sources, values, one_left, other_level, abstract_is_read, abstract_does_not_fit, prefix_first, less_first, down_passes}
use Rattle.pst_trials.proofs.readings_are_tried.Goals as goal

pub returns : goal.returns
returns c = record {
  place = place;
  goes_on = goes_on;
  no_option = no_option;
  stays_dead = stays_dead;
  whole_ends = whole_ends;
  activity = activity;
  sources = sources;
  values = values;
  one_left = one_left;
  other_level = other_level;
  abstract_is_read = abstract_is_read;
  abstract_does_not_fit = abstract_does_not_fit;
  prefix_first = prefix_first;
  less_first = less_first;
  down_passes = down_passes;
}
