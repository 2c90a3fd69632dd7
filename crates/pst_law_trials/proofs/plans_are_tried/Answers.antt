use Rattle.pst_law_trials.proofs.AheadTried.{linked, formed, goes_on, conflict, no_conflict_yet}
use Rattle.pst_law_trials.proofs.plans_are_tried.Goals as goal

pub returns : goal.returns
returns c = record {
  linked = linked;
  formed = formed c.scenarios_are_well_formed.ensures.scenario;
  goes_on = goes_on;
  conflict = conflict;
  no_conflict_yet = no_conflict_yet;
}
