use Rattle.std.proofs.Common.{refl}
use Rattle.pst_trials.proofs.LocalsTried.{sound, shape}
use Rattle.pst_trials.proofs.locals_are_tried.Goals as goal

pub returns : goal.returns
returns c = record {
  sound = sound;
  shape = shape;
  ends = refl;
  its_range = refl;
  reads_zero = refl;
}
