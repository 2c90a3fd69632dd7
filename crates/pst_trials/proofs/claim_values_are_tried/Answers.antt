use Rattle.pst_trials.proofs.ClaimValuesTried.{reads, options, instance_open, field_open, own_open, instance_known, field_still_open, own_known, field_known, no_second_claim, has_unread, has, six, seven, second, above, first_is_refused, second_is_live}
use Rattle.pst_trials.proofs.claim_values_are_tried.Goals as goal

pub returns : goal.returns
returns c = record {
  reads = reads;
  options = options;
  instance_open = instance_open;
  field_open = field_open;
  own_open = own_open;
  instance_known = instance_known;
  field_still_open = field_still_open;
  own_known = own_known;
  field_known = field_known;
  no_second_claim = no_second_claim;
  has_unread = has_unread;
  has = has;
  six = six;
  seven = seven;
  second = second;
  above = above;
  first_is_refused = first_is_refused;
  second_is_live = second_is_live;
}
