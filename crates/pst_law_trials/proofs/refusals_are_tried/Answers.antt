use Rattle.pst_law_trials.proofs.PremisesTried.{refused_at_one, open_at_zero, open_before, reads_legal, isn't_barren, places_keep}
use Rattle.pst_law_trials.proofs.refusals_are_tried.Goals as goal

pub returns : goal.returns
returns c = record {
  refused_at_one = refused_at_one;
  open_at_zero = open_at_zero;
  open_before = open_before;
  reads_legal = reads_legal c.inference_is_tried.ensures;
  isn't_barren = isn't_barren c.inference_is_tried.ensures;
  places_keep = places_keep c.inference_is_tried.ensures;
}
