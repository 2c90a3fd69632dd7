use Rattle.pst_law_trials.proofs.ReadTried.{claims_at_0, claims_at_1, claims_at_2, states_at_0, states_at_1, states_at_2, reads_first_value, reads_one_writer, reads_two_writers}
use Rattle.pst_law_trials.proofs.legal_ones_are_read.Goals as goal

pub returns : goal.returns
returns c = record {
  claims_at_0 = claims_at_0;
  claims_at_1 = claims_at_1;
  claims_at_2 = claims_at_2;
  states_at_0 = states_at_0;
  states_at_1 = states_at_1;
  states_at_2 = states_at_2;
  reads_first_value = reads_first_value;
  reads_one_writer = reads_one_writer;
  reads_two_writers = reads_two_writers;
}
