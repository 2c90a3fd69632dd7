use Rattle.std.proofs.Common.{lit<}
use Rattle.pst_trials.specs.States.{replaced}
use Rattle.pst_trials.proofs.StatesTried.{reads, options, written_has, first_has, reader_has, written_isn't_first, written_follows, written_value, first_is_first, first_follows_nothing, read_value, written_by_one, written_by_two, written_as_first, first_at_zero, first_at_one, first_has_no_step, read_one, read_two, order, conflict, no_writer_yet, then_the_writer, reader_waits, reader_not_first, trace, whole, legal, another_first, reader_before_second, second_before_itself, options_in_chain, reads_chain, options_back, reads_ring, ring_isn't_supplied, chain_from_first}
use Rattle.pst_trials.proofs.states_are_tried.Goals as goal

pub returns : goal.returns
returns c = record {
  reads = reads;
  options = options;
  written_has = written_has;
  first_has = first_has;
  reader_has = reader_has;
  written_isn't_first = written_isn't_first;
  written_follows = written_follows;
  written_value = written_value;
  first_is_first = first_is_first;
  first_follows_nothing = first_follows_nothing;
  read_value = read_value;
  written_by_one = written_by_one;
  written_by_two = written_by_two;
  written_as_first = written_as_first;
  first_at_zero = first_at_zero;
  first_at_one = first_at_one;
  first_has_no_step = first_has_no_step;
  read_one = read_one;
  read_two = read_two;
  order = order;
  conflict = conflict;
  no_writer_yet = no_writer_yet;
  then_the_writer = then_the_writer;
  reader_waits = reader_waits;
  reader_not_first = reader_not_first;
  trace = trace;
  whole = whole;
  legal = legal;
  another_first = another_first;
  reader_before_second = reader_before_second;
  second_before_itself = second_before_itself;
  replaced_can't_run = λ runs. c.whole_is_sound.ensures.cycle replaced 1 runs (lit< tt) second_before_itself;
  options_in_chain = options_in_chain;
  reads_chain = reads_chain;
  options_back = options_back;
  reads_ring = reads_ring;
  ring_isn't_supplied = ring_isn't_supplied;
  chain_from_first = chain_from_first;
}
