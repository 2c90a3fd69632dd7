use Rattle.pst_law_trials.proofs.PlacesTried.{reads, stand, contend, barren, names, none_planned}
use Rattle.pst_law_trials.proofs.places_are_tried.Goals as goal

pub returns : goal.returns
returns c = record {
  reads = reads;
  stand = stand;
  contend = contend;
  barren = barren c.parallel_disputes_stay.ensures.clashes;
  names = names;
  none_planned = none_planned;
}
