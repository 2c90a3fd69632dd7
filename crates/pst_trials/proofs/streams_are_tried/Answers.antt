use Rattle.pst_trials.proofs.StreamsTried.{reads, options, numbered, together, group, not_alone, both, order, order_of_partner, partner_runs_on, trace, whole, bound_options, taken_end, kept_end}
use Rattle.pst_trials.proofs.streams_are_tried.Goals as goal

pub returns : goal.returns
returns c = record {
  reads = reads;
  options = options;
  numbered = numbered;
  together = together;
  group = group;
  not_alone = not_alone;
  both = both;
  order = order;
  order_of_partner = order_of_partner;
  partner_runs_on = partner_runs_on;
  trace = trace;
  whole = whole;
  bound_options = bound_options;
  taken_end = taken_end;
  kept_end = kept_end;
}
