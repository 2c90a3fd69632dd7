use Rattle.pst_law_trials.proofs.PremisesTried.{sound, reads_alone, doesn't_fit, isn't_read, lives, dies}
use Rattle.pst_law_trials.proofs.readings_are_tried.Goals as goal

pub returns : goal.returns
returns c = record {
  sound = sound c.trials_of_sound_models.ensures;
  reads_alone = reads_alone;
  doesn't_fit = doesn't_fit;
  isn't_read = isn't_read c.whole_readings_are_numbered.ensures c.supplies_are_tried.ensures;
  lives = lives;
  dies = dies;
}
