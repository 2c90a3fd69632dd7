use Rattle.pst_law_trials.proofs.PlacesTried.{contend}
use Rattle.pst_law_trials.proofs.AheadTried.{reads_ring, comes_ahead, doesn't_come, isn't_barren, agree, reads_tree, isn't_laid_out}
use Rattle.pst_law_trials.proofs.orders_ahead_are_tried.Goals as goal

pub returns : goal.returns
returns c = record {
  reads_ring = reads_ring;
  comes_ahead = comes_ahead;
  doesn't_come = doesn't_come;
  in_conflict = c.locks_are_tried.ensures.locks_conflict;
  isn't_barren = isn't_barren c.locks_are_tried.ensures;
  contend = contend;
  agree = agree;
  reads_tree = reads_tree;
  isn't_laid_out = isn't_laid_out;
}
