use Rattle.pst_trials.proofs.CoresTried.{reads, makes, commands_again, legal, prefix}
use Rattle.pst_trials.proofs.cores_are_tried.Goals as goal

pub returns : goal.returns
returns c = record {
  reads = reads;
  makes = makes;
  commands_again = commands_again;
  legal = legal;
  prefix = prefix;
}
