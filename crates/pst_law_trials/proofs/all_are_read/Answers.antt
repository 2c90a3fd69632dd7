use Rattle.pst_law_trials.proofs.ReadTried.{buffers_at_0, buffers_at_1, buffers_at_2, streams_at_0, streams_at_1, streams_at_2, selects_at_0, selects_at_1, selects_at_2, joins_at_0, joins_at_1, joins_at_2}
use Rattle.pst_law_trials.proofs.all_are_read.Goals as goal

pub returns : goal.returns
returns c = record {
  buffers_at_0 = buffers_at_0;
  buffers_at_1 = buffers_at_1;
  buffers_at_2 = buffers_at_2;
  streams_at_0 = streams_at_0;
  streams_at_1 = streams_at_1;
  streams_at_2 = streams_at_2;
  selects_at_0 = selects_at_0;
  selects_at_1 = selects_at_1;
  selects_at_2 = selects_at_2;
  joins_at_0 = joins_at_0;
  joins_at_1 = joins_at_1;
  joins_at_2 = joins_at_2;
}
