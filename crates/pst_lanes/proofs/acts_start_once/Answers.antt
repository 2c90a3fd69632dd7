use Rattle.pst_lanes.proofs.Laned.{laned_trace}
use Rattle.pst_lanes.proofs.acts_start_once.Goals as goal

pub returns : goal.returns
returns c = record {
  once = λ s lanes t legal. (laned_trace s lanes t legal).once;
  one_lane = λ s lanes t legal. (laned_trace s lanes t legal).one_lane;
  begun = λ s lanes t legal. (laned_trace s lanes t legal).begun;
}
