use Rattle.std.proofs.Common.{refl}
use Rattle.pst_trials.proofs.FillingsTried.{endless_isn't_filled, two_levels, one_level, no_guard, no_count, negative_count, no_condition, nothing_taken, no_default, a_default, beside, inside, no_instance, no_previous, beyond_fails}
use Rattle.pst_trials.proofs.fillings_are_tried.Goals as goal

pub returns : goal.returns
returns c = record {
  endless_isn't_filled = endless_isn't_filled;
  two_levels = two_levels;
  one_level = one_level;
  levels = refl;
  no_guard = no_guard;
  no_count = no_count;
  negative_count = negative_count;
  no_condition = no_condition;
  nothing_taken = nothing_taken;
  no_default = no_default;
  a_default = a_default;
  beside = beside;
  inside = inside;
  no_instance = no_instance;
  initial_of_first = refl;
  initial_of_written = refl;
  initial_of_output = refl;
  no_previous = no_previous;
  no_sum = refl;
  a_sum = refl;
  beyond_fails = beyond_fails;
}
