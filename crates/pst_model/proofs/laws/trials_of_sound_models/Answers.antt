use Rattle.std.proofs.Common.{pos, refl, arith}
use Rattle.std.proofs.lemmas.Int.{ints}
use Rattle.pst_model.specs.Trials.{root}
use Rattle.pst_model.proofs.TrialLemmas.{lone_is_sound}
use Rattle.pst_model.proofs.laws.trials_of_sound_models.Goals as goal

pub returns : goal.returns
returns c = record {
  sound = lone_is_sound;
  variable = λ h. omega (arith, h);
  elements = λ h. let k = h.2 in omega (arith, k);
  no_elements = λ h. let k = h.0 in omega (arith, k);
  no_field = λ h. omega (arith, h);
  no_level = λ h. omega (arith, h);
  steady = refl;
  missing = λ h. cc;
  twice = λ h. cc;
  repeated = λ h. cc;
  choice = λ h. omega (arith, h);
  branch = λ h. let k = h 1 (λ e. cc) in omega (arith, k);
  touching = λ h. h (pos 3) (omega (arith, ints), omega (arith, ints)) (omega (arith, ints), omega (arith, ints));
  weight = λ h. let k = h.least in omega (arith, k);
  no_action = λ h. h.1;
  beyond = λ h. let k = (h.subtrees 0 (root 1) refl).within in omega (arith, k);
}
