use Rattle.pst_law_trials.proofs.PremisesTried.{place, no_option, an_option, stays_dead, no_place, whole_ends, others_go_on}
use Rattle.pst_law_trials.proofs.longer_lists_are_tried.Goals as goal

pub returns : goal.returns
returns c = record {
  place = place;
  no_option = no_option;
  an_option = an_option;
  stays_dead = stays_dead;
  no_place = no_place;
  whole_ends = whole_ends;
  others_go_on = others_go_on;
}
