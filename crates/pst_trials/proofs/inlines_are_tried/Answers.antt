use Rattle.pst_trials.proofs.InlinesTried.{reads, options, handle, handle_value, outer_value, no_handle_yet, handle_unread, own_unread, handle_has, nine_has, outer_has, is_next_value, is_nine_value, is_outer_value, all_hold, eight_fails, fifteen_is_refused}
use Rattle.pst_trials.proofs.inlines_are_tried.Goals as goal

pub returns : goal.returns
returns c = record {
  reads = reads;
  options = options;
  handle = handle;
  handle_value = handle_value;
  outer_value = outer_value;
  no_handle_yet = no_handle_yet;
  handle_unread = handle_unread;
  own_unread = own_unread;
  handle_has = handle_has;
  nine_has = nine_has;
  outer_has = outer_has;
  is_next_value = is_next_value;
  is_nine_value = is_nine_value;
  is_outer_value = is_outer_value;
  all_hold = all_hold;
  eight_fails = eight_fails;
  fifteen_is_refused = fifteen_is_refused;
}
