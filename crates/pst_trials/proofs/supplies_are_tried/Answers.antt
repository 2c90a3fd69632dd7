use Rattle.pst_trials.proofs.SuppliesTried.{in_order, other_order, with_one, not_needed, one_to_one, other_pool, same_pool, no_input, its_first, no_first, first_too_many, first_twice, rivals_aren't}
use Rattle.pst_trials.proofs.supplies_are_tried.Goals as goal

pub returns : goal.returns
returns c = record {
  in_order = in_order;
  other_order = other_order;
  with_one = with_one;
  not_needed = not_needed;
  one_to_one = one_to_one;
  other_pool = other_pool;
  same_pool = same_pool;
  no_input = no_input;
  its_first = its_first;
  no_first = no_first;
  first_too_many = first_too_many;
  first_twice = first_twice;
  rivals_aren't = rivals_aren't;
}
