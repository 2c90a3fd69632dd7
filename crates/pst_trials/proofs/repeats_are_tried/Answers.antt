use Rattle.pst_trials.proofs.RepeatsTried.{reads, options, no_turn, negative_count, stands, has, turn, holds, reads_two, turns_in_order, fills}
use Rattle.pst_trials.proofs.repeats_are_tried.Goals as goal

pub returns : goal.returns
returns c = record {
  reads = reads;
  options = options;
  no_turn = no_turn;
  negative_count = negative_count;
  stands = stands;
  has = has;
  turn = turn;
  holds = holds;
  reads_two = reads_two;
  turns_in_order = turns_in_order;
  fills = fills;
}
